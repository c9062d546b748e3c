use Rattle.std.proofs.Common.{◌≡◌, ◌∙◌, ℕ, ◌/◌, None, List, ap}
use Rattle.paged_store.specs.Pages.{paged_bytes}
use Rattle.cell_values.specs.declared.values.Cell.{Cell}
use Rattle.cell_values.specs.declared.word_table.WordTable.{WordTable}
use Rattle.cell_values.specs.Cells.{put_cells, split}
use Rattle.cell_values.specs.Rows.{entry_at, row_in, rows_of}
use Rattle.cell_values.proofs.RowLemmas.{value_row, value_put, rows_same}
use Rattle.cell_values.proofs.store.CellStore.set_entry.Goals as goal

pub returns-in-Ok-clause-set : goal.returns-in-Ok-clause-set
returns-in-Ok-clause-set c =
    let m = c.mark.new.self in
    let none : entry_at m.cells (c.args.at / 4) ≡ None = ap (λ (t : WordTable (List Cell)). entry_at t (c.args.at / 4)) c.mark.ensures.cells ∙ c.requires.none in
    value_put (rows_of m.values m.cells) (rows_of c.set.new.self m.cells) (paged_bytes m.bytes.directory.items m.bytes.bytes.items) c.args.at c.args.value.now c.requires.aligned
    (value_row (entry_at m.cells) (entry_at m.values) (entry_at c.set.new.self) c.args.at c.args.value.now none c.in-Ok.ensures.ok)
    ∙ ap (λ (t : ℕ → Cell). put_cells t c.args.at (split c.args.value.now)) c.mark.ensures.same

pub returns-in-Err-clause-err : goal.returns-in-Err-clause-err
returns-in-Err-clause-err c =
    let m = c.mark.new.self in
    rows_same (rows_of m.values m.cells) (rows_of c.set.new.self m.cells) (paged_bytes m.bytes.directory.items m.bytes.bytes.items) (λ w. ap (row_in (entry_at m.cells w)) (c.in-Err.ensures.err w))
    ∙ c.mark.ensures.same
