use Rattle.std.proofs.Common.{◌≡◌, ◌∙◌, min, slice_index_or, sym, arith}
use Rattle.object_graph.specs.Spans.{is_between}
use Rattle.object_graph.proofs.BoundLemmas.{capped, none_between, reached_more}
use Rattle.object_graph.proofs.remaining_spans.ranges_between.Goals as goal

pub push_left-requires-clause-steady : goal.push_left-requires-clause-steady
push_left-requires-clause-steady c a below =
    let bounds = c.in_ok-bounds.bounds.items in
    let same : c.min-to.result ≡ min (slice_index_or bounds c.loop-k.k 0) 4294967296 = capped bounds c.loop-k.k _ _ (omega arith) c.index.ensures c.min-to.ensures in
    sym (c.in_ok-bounds.ensures.same (is_between c.loop-k.from a))
    ∙ none_between bounds c.loop-k.k c.loop-k.from c.min-to.result a c.in_ok-bounds.ensures.increasing c.loop-k.invariant.reached (λ within. omega (arith, same)) (omega (arith, same)) below

pub loop-k-preserved : goal.loop-k-preserved
loop-k-preserved c =
    let bounds = c.in_ok-bounds.bounds.items in
    let same : c.min-to.result ≡ min (slice_index_or bounds c.loop-k.k 0) 4294967296 = capped bounds c.loop-k.k _ _ (omega arith) c.index.ensures c.min-to.ensures in
    record {
      covers = c.in_ok-push_left.ensures;
      reached = reached_more bounds c.loop-k.k c.loop-k.from c.min-to.result c.in_ok-bounds.ensures.increasing (omega arith) same c.loop-k.invariant.reached;
    }

pub push_left-requires-2-clause-steady : goal.push_left-requires-2-clause-steady
push_left-requires-2-clause-steady c a below =
    let bounds = c.in_ok-bounds.bounds.items in
    sym (c.in_ok-bounds.ensures.same (is_between c.loop-k.from a))
    ∙ none_between bounds c.loop-k.k c.loop-k.from 4294967296 a c.in_ok-bounds.ensures.increasing c.loop-k.invariant.reached (λ within. absurd (omega (arith, within))) (omega arith) below
