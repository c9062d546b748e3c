use Rattle.std.proofs.Common.{◌≡◌, ℕ, ◌+◌, take, length, slice_index}
use Rattle.placement_programme.specs.Programme.{weight_in}
use Rattle.certificate_checker.proofs.loads.subtract_weights.Given as goal

abbrev pub invariant-loop-entry : goal.invariant-loop-entry
invariant-loop-entry l = record {
  values : (row : ℕ) → slice_index l.loads row + weight_in (take l.entry-index l.weights) row ≡ slice_index l.fn.loads row;
  room : length l.loads ≡ length l.fn.loads;
}
