use Rattle.std.proofs.Common.{◌≡◌, ℕ, ◌+◌, ◌*◌, ◌<◌, ◌≤◌, length, map, take, slice_index}
use Rattle.std.specs.List.{sum_by}
use Rattle.placement_programme.specs.Plain.{plain_var}
use Rattle.placement_programme.specs.Programme.{weight_at}
use Rattle.placement_programme.proofs.fitting.loads_from.Given as goal

abbrev pub invariant-loop-number : goal.invariant-loop-number
invariant-loop-number l = record {
  len : length l.loads ≡ 4096;
  sums : (k : ℕ) → k < length l.loads → slice_index l.loads k ≡ sum_by (weight_at (map plain_var l.vars) (l.low + k)) (take l.number-index l.take);
  small : (k : ℕ) → k < length l.loads → slice_index l.loads k ≤ l.number-index * 4294967295;
}
