use Rattle.std.proofs.Common.{◌≡◌, ℕ, ◌<◌, ◌≤◌, map, take}
use Rattle.std.specs.List.{sum_by}
use Rattle.placement_programme.specs.Plain.{plain_var}
use Rattle.placement_programme.specs.Programme.{weight_at}
use Rattle.placement_programme.proofs.fitting.weigh_nothing.Given as goal

abbrev pub invariant-loop-number : goal.invariant-loop-number
invariant-loop-number l =
    (row : ℕ) → l.low ≤ row → row < l.high → sum_by (weight_at (map plain_var l.vars) row) (take l.number-index l.take) ≡ 0
