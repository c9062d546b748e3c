use Rattle.std.proofs.Common.{◌≡◌, ℕ, ◌||◌, take}
use Rattle.std.specs.List.{All, list_any}
use Rattle.object_graph.specs.Sites.{in_range}
use Rattle.object_graph.specs.Spans.{IsShort, any_holds}
use Rattle.object_graph.proofs.spans.push_ranges.Given as goal

abbrev pub invariant-loop-range : goal.invariant-loop-range
invariant-loop-range l = record {
  held : (a : ℕ) → any_holds l.spans.items a ≡ (any_holds l.fn.spans.items a || list_any (λ r. in_range r a) (take l.range-index l.ranges));
  short : All IsShort l.fn.spans.items → All IsShort l.spans.items;
}
