use Rattle.std.proofs.Common.{inr, refl, sym, ap, ◌∙◌}
use Rattle.toml.specs.Parse.{parse_document}
use Rattle.board_config.proofs.Tables.{table_of_text, no_table}
use Rattle.board_config.proofs.reading.parse.Goals as goal

pub returns-in_default-clause-err : goal.returns-in_default-clause-err
returns-in_default-clause-err c = inr (refl, no_table c.args.text.now c.in_default.ensures.cases.0)

pub returns-in-Ok-table_from_str-clause-ok : goal.returns-in-Ok-table_from_str-clause-ok
returns-in-Ok-table_from_str-clause-ok c =
    let read = c.in-Ok.ensures.cases in
    table_of_text c.args.text.now read.1 ∙ (ap parse_document (sym read.0) ∙ c.in-Ok-table_from_str.ensures.ok)
