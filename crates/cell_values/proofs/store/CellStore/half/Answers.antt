use Rattle.paged_store.specs.Pages.{paged_bytes}
use Rattle.cell_values.specs.Rows.{rows_of, cells_in}
use Rattle.cell_values.proofs.CellLemmas.{plain_half}
use Rattle.cell_values.proofs.store.CellStore.half.Goals as goal

pub returns-then-is_plain : goal.returns-then-is_plain
returns-then-is_plain c =
    let s = c.args.self.now in
    rw c.get_half.ensures
    (plain_half (cells_in (rows_of s.values s.cells)) (paged_bytes s.bytes.directory.items s.bytes.bytes.items) c.args.at c.requires (c.is_plain.ensures c.if-is_plain.true))
