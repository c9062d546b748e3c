use Rattle.object_graph.proofs.KindLemmas.{mapped_held}
use Rattle.object_graph.proofs.mapped_memory.mapped_spans.Goals as goal

pub returns-clause-held : goal.returns-clause-held
returns-clause-held c a =
    mapped_held c.args.board.now a c.new-spans.result.items c.span_of.result c.deref.result.now _ _ c.new-spans.ensures.items (c.in_ok-push_span.ensures.held a) c.span_of.ensures.span c.deref.ensures.value (c.in_ok-push_ranges.ensures.held a)
