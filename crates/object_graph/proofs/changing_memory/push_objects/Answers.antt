use Rattle.std.proofs.Common.{ap, arith}
use Rattle.object_graph.specs.Spans.{holds}
use Rattle.object_graph.specs.Kinds.{in_object_of_list}
use Rattle.object_graph.proofs.KindLemmas.{element_more}
use Rattle.object_graph.proofs.changing_memory.push_objects.Goals as goal

pub loop-object-preserved : goal.loop-object-preserved
loop-object-preserved c a =
    element_more (in_object_of_list a) c.args.objects.now c.loop-object.object-index _ _ _ _ _ (omega arith) (c.loop-object.invariant a) (c.in_ok-push_span.ensures.held a) (ap (holds a) c.span_of.ensures.span)
