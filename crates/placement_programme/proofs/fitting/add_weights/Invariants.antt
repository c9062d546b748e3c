use Rattle.std.proofs.Common.{◌≡◌, ℕ, ◌+◌, ◌<◌, length, take, slice_index}
use Rattle.placement_programme.specs.Programme.{weight_in}
use Rattle.placement_programme.proofs.fitting.add_weights.Given as goal

abbrev pub invariant-loop-i : goal.invariant-loop-i
invariant-loop-i l = record {
  len : length l.loads ≡ length l.initial.loads;
  sums : (k : ℕ) → k < length l.loads → slice_index l.loads k ≡ slice_index l.initial.loads k + weight_in (take l.i l.weights) (l.low + k);
}
