use Rattle.std.proofs.Common.{◌≡◌}
use Rattle.object_graph.specs.Disjoint.{unmarked_below}
use Rattle.object_graph.proofs.range_marks.unmarked.Given as goal

abbrev pub invariant-loop-k : goal.invariant-loop-k
invariant-loop-k l = l.kept.items ≡ unmarked_below l.ranges l.marks l.k
