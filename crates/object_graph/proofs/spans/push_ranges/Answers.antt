use Rattle.std.proofs.Common.{ap, arith}
use Rattle.object_graph.specs.Sites.{in_range}
use Rattle.object_graph.specs.Spans.{holds}
use Rattle.object_graph.proofs.KindLemmas.{element_more}
use Rattle.object_graph.proofs.spans.push_ranges.Goals as goal

pub loop-range-preserved : goal.loop-range-preserved
loop-range-preserved c = record {
  held = λ a. element_more (λ r. in_range r a) c.args.ranges.now c.loop-range.range-index _ _ _ _ _ (omega arith) (c.loop-range.invariant.held a) (c.in_ok-push_span.ensures.held a) (ap (holds a) c.span_of.ensures.span);
  short = λ all. c.in_ok-push_span.ensures.short (c.loop-range.invariant.short all) c.span_of.ensures.short;
}
