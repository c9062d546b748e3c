use Rattle.std.proofs.Common.{◌≡◌}
use Rattle.branch_bound.specs.Assignments.{ones_below}
use Rattle.branch_bound.proofs.ones.ones_of.Given as goal

abbrev pub invariant-loop-number : goal.invariant-loop-number
invariant-loop-number l = l.take.items ≡ ones_below l.number l.marks
