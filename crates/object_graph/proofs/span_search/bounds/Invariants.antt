use Rattle.std.proofs.Common.{◌≡◌}
use Rattle.list_checks.specs.Sorted.{collected}
use Rattle.object_graph.specs.SpanBounds.{is_filled, bound_at}
use Rattle.object_graph.proofs.span_search.bounds.Given as goal

abbrev pub invariant-loop-k : goal.invariant-loop-k
invariant-loop-k l = l.list.items ≡ collected (is_filled l.spans) (bound_at l.bound l.spans) l.k
