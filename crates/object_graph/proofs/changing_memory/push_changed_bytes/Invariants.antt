use Rattle.std.proofs.Common.{◌≡◌, ℕ, ◌||◌}
use Rattle.list_checks.specs.Tests.{any_below}
use Rattle.elf_reader.specs.File.{plain_view}
use Rattle.object_graph.specs.Sites.{holds_changed_byte}
use Rattle.object_graph.specs.Spans.{any_holds}
use Rattle.object_graph.proofs.changing_memory.push_changed_bytes.Given as goal

abbrev pub invariant-loop-g : goal.invariant-loop-g
invariant-loop-g l =
    (a : ℕ) → any_holds l.spans.items a ≡ (any_holds l.fn.spans.items a || any_below (holds_changed_byte (plain_view l.view) a) l.g)
