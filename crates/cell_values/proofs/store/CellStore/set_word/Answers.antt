use Rattle.std.proofs.Common.{◌∙◌, subst, List}
use Rattle.paged_store.specs.Pages.{paged_bytes}
use Rattle.cell_values.specs.declared.values.Cell.{Cell}
use Rattle.cell_values.specs.Rows.{rows_of, cells_in, HasRow}
use Rattle.cell_values.specs.Stored.{cells_over}
use Rattle.cell_values.proofs.RowLemmas.{value_put}
use Rattle.cell_values.proofs.store.CellStore.set_word.Goals as goal

pub returns-in-Ok-clause-set : goal.returns-in-Ok-clause-set
returns-in-Ok-clause-set c =
    let s = c.args.self.now in
    let t = c.set_row.new.self in
    let has = subst (λ (row : List Cell). HasRow (rows_of s.values s.cells) (rows_of t.values t.cells) c.args.at row) c.split.ensures.value c.in-Ok.ensures.set in
    (λ i. cells_over (cells_in (rows_of t.values t.cells)) (paged_bytes (c.set_row.ensures.bytes i).directory.items (c.set_row.ensures.bytes i).bytes.items))
    ∙ value_put (rows_of s.values s.cells) (rows_of t.values t.cells) (paged_bytes s.bytes.directory.items s.bytes.bytes.items) c.args.at c.args.value.now c.requires.aligned has
