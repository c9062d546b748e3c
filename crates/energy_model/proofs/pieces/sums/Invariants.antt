use Rattle.std.proofs.Common.{◌+◌, ◌-◌, ◌≤◌}
use Rattle.energy_model.specs.Counts.{AreSums}
use Rattle.energy_model.proofs.pieces.sums.Given as goal

abbrev pub invariant-loop-b : goal.invariant-loop-b
invariant-loop-b l = record {
  from : l.range.first ≤ l.b;
  to : l.b ≤ l.range.last + 1;
  sums : AreSums l.code l.graph l.profile l.range l.b l.sums;
}

abbrev pub decreases-loop-b : goal.decreases-loop-b
decreases-loop-b l = l.initial.range.last + 1 - l.b
