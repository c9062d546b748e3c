use Rattle.std.proofs.Common.{take}
use Rattle.placement_programme.specs.Views.{plain_side}
use Rattle.branch_bound.specs.Assignments.{AreMarksOf}
use Rattle.branch_bound.proofs.starting.marks_of.Given as goal

abbrev pub invariant-loop-number : goal.invariant-loop-number
invariant-loop-number l = AreMarksOf (plain_side l.side) (take l.number-index l.take) l.marks.items
