use Rattle.std.proofs.Common.{map, ap, sym, ◌∙◌}
use Rattle.command_language.specs.Lines.{plain_input, names_of}
use Rattle.command_line.specs.Listing.{listed_name}
use Rattle.command_line.proofs.ListedNames.{listed_now, lines_rejected}
use Rattle.command_line.proofs.mix_inputs.names_in.Goals as goal

pub returns-in_ok-names_of_lines-in-Ok-clause-ok : goal.returns-in_ok-names_of_lines-in-Ok-clause-ok
returns-in_ok-names_of_lines-in-Ok-clause-ok c =
    c.in_ok-names_of_lines-in-Ok.ensures ∙ ap (λ lines. map listed_name (map plain_input lines)) c.deref.ensures.value
    ∙ ap (map listed_name) c.in-Ok.ensures.ok.1 ∙ sym (listed_now (names_of c.args.written.now) c.args.mix.now c.in-Ok.ensures.ok.0)

pub returns-in-Err-clause-err : goal.returns-in-Err-clause-err
returns-in-Err-clause-err c = rw c.from.ensures (lines_rejected (names_of c.args.written.now) c.args.mix.now c.in-Err.fault c.in-Err.ensures.err)
