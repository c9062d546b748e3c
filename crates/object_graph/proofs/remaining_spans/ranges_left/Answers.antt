use Rattle.std.proofs.Common.{List, sym, subst}
use Rattle.std.specs.List.{All}
use Rattle.object_graph.specs.declared.spans.Span.{Span}
use Rattle.object_graph.specs.Spans.{IsShort, Covers}
use Rattle.object_graph.proofs.remaining_spans.ranges_left.Goals as goal

pub ranges_between-requires : goal.ranges_between-requires
ranges_between-requires c = subst (λ (spans : List Span). All IsShort spans) (sym c.in_ok-kept_search.ensures) c.requires

pub returns-in-Ok : goal.returns-in-Ok
returns-in-Ok c =
    subst (λ (kept : List Span). Covers kept c.args.cut.now c.in-Ok.ranges.items 4294967296) c.in_ok-kept_search.ensures
    (subst (λ (cut : List Span). Covers c.in_ok-kept_search.kept_search.spans.now cut c.in-Ok.ranges.items 4294967296) c.in_ok-cut_search.ensures c.in-Ok.ensures)
