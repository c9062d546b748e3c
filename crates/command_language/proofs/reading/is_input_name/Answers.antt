use Rattle.std.proofs.Common.{◌≡◌, true, not, ◌&&◌, bytes_eq, sym, ap, ◌∙◌}
use Rattle.std.specs.List.{list_any}
use Rattle.command_language.specs.Lines.{is_name, names_of}
use Rattle.command_language.proofs.NameLemmas.{any_name}
use Rattle.command_language.proofs.reading.is_input_name.Goals as goal

pub returns-then-is_name : goal.returns-then-is_name
returns-then-is_name c =
    let named : is_name c.args.bytes.now ≡ true = sym c.is_name.ensures ∙ c.if-is_name.true in
    ap not (c.is_written.ensures ∙ any_name c.args.bytes.now c.args.written.now)
    ∙ ap (λ b. b && not (list_any (λ other. bytes_eq other c.args.bytes.now) (names_of c.args.written.now))) (sym named)
