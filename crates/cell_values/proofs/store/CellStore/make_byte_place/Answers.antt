use Rattle.std.proofs.Common.{◌∙◌, inr, ◌/◌, ap}
use Rattle.cell_values.specs.declared.values.Val.{Val}
use Rattle.cell_values.specs.declared.word_table.WordTable.{WordTable}
use Rattle.cell_values.specs.Rows.{entry_at}
use Rattle.cell_values.proofs.RowLemmas.{none_of_row}
use Rattle.cell_values.proofs.store.CellStore.make_byte_place.Goals as goal

pub returns-in-Ok-clause-place : goal.returns-in-Ok-clause-place
returns-in-Ok-clause-place c =
    let s = c.args.self.now in
    inr (ap (λ (t : WordTable Val). entry_at t (c.args.at / 4)) c.make_page.ensures.values ∙ none_of_row (entry_at s.cells (c.args.at / 4)) (entry_at s.values (c.args.at / 4)) c.requires, c.in-Ok.ensures.page)
