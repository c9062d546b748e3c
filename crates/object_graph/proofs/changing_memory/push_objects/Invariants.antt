use Rattle.std.proofs.Common.{◌≡◌, ℕ, ◌||◌, take}
use Rattle.std.specs.List.{list_any}
use Rattle.object_graph.specs.Spans.{any_holds}
use Rattle.object_graph.specs.Kinds.{in_object_of_list}
use Rattle.object_graph.proofs.changing_memory.push_objects.Given as goal

abbrev pub invariant-loop-object : goal.invariant-loop-object
invariant-loop-object l =
    (a : ℕ) → any_holds l.spans.items a ≡ (any_holds l.fn.spans.items a || list_any (in_object_of_list a) (take l.object-index l.objects))
