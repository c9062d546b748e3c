use Rattle.std.proofs.Common.{◌∙◌, sym, refl, arith}
use Rattle.object_graph.proofs.SpanLemmas.{few_left, covers_same, covers_more}
use Rattle.object_graph.proofs.remaining_spans.push_left.Goals as goal

pub overflow_cast-to : goal.overflow_cast-to
overflow_cast-to c =
    let less = few_left c.args.kept.now.spans.now c.args.cut.now.spans.now c.args.from c.args.to c.requires.short c.requires.steady (sym c.starts_left.ensures ∙ c.if-starts_left.true) in
    omega (arith, less)

pub returns-in_ok-push : goal.returns-in_ok-push
returns-in_ok-push c =
    rw c.in_ok-push.ensures.items
    (covers_more c.args.kept.now.spans.now c.args.cut.now.spans.now _ c.args.from c.args.to _ refl refl c.requires.covers c.requires.steady c.requires.order (sym c.starts_left.ensures ∙ c.if-starts_left.true))

pub returns-else-starts_left : goal.returns-else-starts_left
returns-else-starts_left c =
    covers_same c.args.kept.now.spans.now c.args.cut.now.spans.now _ c.args.from c.args.to c.requires.covers c.requires.steady c.requires.order (sym c.starts_left.ensures ∙ c.if-starts_left.false)
