use Rattle.std.proofs.Common.{◌≡◌, ℕ, ◌+◌, ◌<◌, ◌≤◌, drop, length, slice_index_or}
use Rattle.cell_values.specs.declared.values.Cell.TheVariants.{Mist}
use Rattle.cell_values.specs.Cells.{put_cells}
use Rattle.cell_values.specs.Stored.{cells_of, HasPlace}
use Rattle.cell_values.proofs.store.CellStore.put_all.Given as goal

-- what is left to put leads to what is wanted
abbrev pub invariant-loop-k : goal.invariant-loop-k
invariant-loop-k l = record {
  cells : put_cells (cells_of l.self) (l.at + l.k) (drop l.k l.cells) ≡ put_cells (cells_of l.fn.self) l.at l.cells;
  places : (j : ℕ) → l.k ≤ j → j < length l.cells → HasPlace l.self (l.at + j) (slice_index_or l.cells j Mist);
}
