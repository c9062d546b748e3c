use Rattle.std.proofs.Common.{◌≡◌, ℕ, Bool, ◌||◌, take}
use Rattle.std.specs.List.{list_any}
use Rattle.object_graph.specs.Spans.{at_an_end}
use Rattle.object_graph.proofs.span_bounds.push_ends.Given as goal

abbrev pub invariant-loop-span : goal.invariant-loop-span
invariant-loop-span l =
    (test : ℕ → Bool) → list_any test l.bounds.items ≡ (list_any test l.fn.bounds.items || list_any (at_an_end test) (take l.span-index l.spans))
