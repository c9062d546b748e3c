use Rattle.std.proofs.Common.{sym, ◌∙◌}
use Rattle.command_language.specs.Lines.{names_of}
use Rattle.command_language.proofs.NameLemmas.{name_is_text}
use Rattle.command_language.proofs.reading.name_of.Goals as goal

pub returns-in-Err : goal.returns-in-Err
returns-in-Err c =
    absurd (c.in-Err.ensures.cases.0 (name_is_text (names_of c.args.written.now) c.args.bytes.now (sym c.is_input_name.ensures ∙ c.if-is_input_name.true)))
