use Rattle.std.proofs.Common.{◌≡◌, ℕ, ◌+◌, ◌<◌, slice_index_or}
use Rattle.cell_values.specs.declared.values.Cell.TheVariants.{Mist}
use Rattle.cell_values.specs.Stored.{cells_of, HasPlace}
use Rattle.cell_values.proofs.store.CellStore.make_places.Given as goal

abbrev pub invariant-loop-k : goal.invariant-loop-k
invariant-loop-k l = record {
  same : cells_of l.self ≡ cells_of l.fn.self;
  places : (j : ℕ) → j < l.k → HasPlace l.self (l.at + j) (slice_index_or l.cells j Mist);
}
