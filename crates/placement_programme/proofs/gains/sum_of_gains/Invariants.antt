use Rattle.std.proofs.Common.{◌≡◌, map, take}
use Rattle.std.specs.List.{sum_by}
use Rattle.placement_programme.specs.Plain.{plain_var}
use Rattle.placement_programme.specs.Programme.{gain_at}
use Rattle.placement_programme.proofs.gains.sum_of_gains.Given as goal

abbrev pub invariant-loop-number : goal.invariant-loop-number
invariant-loop-number l = l.total ≡ sum_by (gain_at (map plain_var l.vars)) (take l.number-index l.take)
