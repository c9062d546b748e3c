use Rattle.object_graph.specs.Spans.{Covers}
use Rattle.object_graph.proofs.BoundLemmas.{IsReached}
use Rattle.object_graph.proofs.remaining_spans.ranges_between.Given as goal

abbrev pub invariant-loop-k : goal.invariant-loop-k
invariant-loop-k l = record {
  covers : Covers l.kept.spans.now l.cut.spans.now l.ranges.items l.from;
  reached : IsReached l.bounds.items l.k l.from;
}
