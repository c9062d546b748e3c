use Rattle.std.proofs.Common.{◌∙◌, ◌+◌, ap, refl}
use Rattle.std.specs.List.{count_by}
use Rattle.list_checks.specs.Sorted.{is_under}
use Rattle.object_graph.proofs.SpanSearchLemmas.{held_by}
use Rattle.object_graph.proofs.span_search.SpanSearch.any_holds.Goals as goal

pub returns : goal.returns
returns c =
    let search = c.args.self.now in
    let next = c.args.address + 1 in
    held_by search.spans.now search.starts.items search.ends.items c.args.address next c.count_under.result c.count_under-2.result search.bounds refl
    (c.count_under.ensures ∙ ap (count_by (is_under next)) c.deref.ensures.value)
    (c.count_under-2.ensures ∙ ap (count_by (is_under next)) c.deref-2.ensures.value)
