use Rattle.std.proofs.Common.{◌≡◌, ◌+◌, ◌^◌, map, take}
use Rattle.std.specs.List.{sum_by}
use Rattle.placement_programme.specs.Plain.{plain_var}
use Rattle.placement_programme.proofs.limits.gains_fit.Given as goal

abbrev pub invariant-loop-var : goal.invariant-loop-var
invariant-loop-var l = l.left + sum_by (λ v. v.gain) (take l.var-index (map plain_var l.vars)) + 1 ≡ 2 ^ 104
