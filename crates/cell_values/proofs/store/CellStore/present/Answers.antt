use Rattle.std.proofs.Common.{sym}
use Rattle.paged_store.specs.Pages.{paged_bytes}
use Rattle.cell_values.specs.Rows.{rows_of}
use Rattle.cell_values.proofs.RowLemmas.{found_in}
use Rattle.cell_values.proofs.store.CellStore.present.Goals as goal

pub returns-in-Some : goal.returns-in-Some
returns-in-Some c =
    let s = c.args.self.now in
    found_in (rows_of s.values s.cells) (paged_bytes s.bytes.directory.items s.bytes.bytes.items) c.args.at c.in-Some.cells (sym c.in-Some.ensures)
