use Rattle.std.proofs.Common.{◌≡◌, ℕ, length, subst, arith}
use Rattle.list_checks.specs.Sorted.{collected}
use Rattle.loaded_file.proofs.ListedLemmas.{collected_more, list_of}
use Rattle.object_graph.specs.SpanBounds.{is_filled, bound_at}
use Rattle.object_graph.proofs.span_search.bounds.Goals as goal

pub loop-k-preserved : goal.loop-k-preserved
loop-k-preserved c =
    let test = is_filled c.args.spans.now in
    let value = bound_at c.args.bound c.args.spans.now in
    collected_more test value c.loop-k.k _ _ c.loop-k.invariant c.in_ok-push_bound.ensures

pub returns : goal.returns
returns c =
    let test = is_filled c.args.spans.now in
    let value = bound_at c.args.bound c.args.spans.now in
    let all : c.loop-k.k ≡ length c.args.spans.now = omega arith in
    list_of test value (length c.args.spans.now) _ c.arrange.new.numbers.items
    (subst (λ (n : ℕ). c.loop-k.list.items ≡ collected test value n) all c.loop-k.invariant)
    c.arrange.ensures.sorted c.arrange.ensures.same c.arrange.ensures.counts
