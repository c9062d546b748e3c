use Rattle.placement_programme.specs.Programme.{gain_at}
use Rattle.placement_programme.specs.Views.{plain_side}
use Rattle.branch_bound.specs.Greatest.{Greatest}
use Rattle.branch_bound.specs.Greedy.{FitsAlone}
use Rattle.branch_bound.proofs.greedy.best_alone.Given as goal

abbrev pub invariant-loop-number : goal.invariant-loop-number
invariant-loop-number l =
    Greatest (FitsAlone (plain_side l.side)) (gain_at (plain_side l.side).vars) l.number l.best
