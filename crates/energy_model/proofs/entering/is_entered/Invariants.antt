use Rattle.std.proofs.Common.{◌≡◌, ℕ, ◌≤◌, ◌<◌, false, slice_index_or}
use Rattle.energy_model.proofs.entering.is_entered.Given as goal

abbrev pub invariant-loop-b : goal.invariant-loop-b
invariant-loop-b l = (k : ℕ) → l.range.first ≤ k → k < l.b → slice_index_or l.regions.border.items k false ≡ false
