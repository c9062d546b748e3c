use Rattle.std.proofs.Common.{◌+◌, length}
use Rattle.region_former.specs.Propagation.{weight, PropagatesSoFar}
use Rattle.region_former.proofs.propagation.propagate_out.Given as goal

abbrev pub invariant-loop-f : goal.invariant-loop-f
invariant-loop-f l = PropagatesSoFar l.initial.marks l.rows l.waiting.items l.marks

abbrev pub decreases-loop-f : goal.decreases-loop-f
decreases-loop-f l = weight l.marks + length l.waiting.items
