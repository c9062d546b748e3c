use Rattle.std.proofs.Common.{◌≡◌, ◌∙◌, length, arith}
use Rattle.paged_store.specs.Pages.{paged_bytes}
use Rattle.cell_values.specs.Rows.{rows_of, cells_in}
use Rattle.cell_values.specs.Stored.{cells_over}
use Rattle.cell_values.proofs.RowLemmas.{single_put}
use Rattle.cell_values.proofs.store.CellStore.set_cell.Goals as goal

pub returns-in-Ok-clause-set : goal.returns-in-Ok-clause-set
returns-in-Ok-clause-set c =
    let s = c.args.self.now in
    let t = c.set_row.new.self in
    let len : length c.present-row.result ≡ 4 = omega arith in
    (λ i. cells_over (cells_in (rows_of t.values t.cells)) (paged_bytes (c.set_row.ensures.bytes i).directory.items (c.set_row.ensures.bytes i).bytes.items))
    ∙ single_put (rows_of s.values s.cells) (rows_of t.values t.cells) (paged_bytes s.bytes.directory.items s.bytes.bytes.items) c.args.at c.present-row.result c.args.cell len c.present-row.ensures c.in-Ok.ensures.set
