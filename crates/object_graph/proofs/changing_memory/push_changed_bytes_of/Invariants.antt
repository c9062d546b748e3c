use Rattle.std.proofs.Common.{◌≡◌, ℕ, ◌||◌}
use Rattle.elf_reader.specs.File.{plain_segment, plain_view}
use Rattle.object_graph.specs.Spans.{any_holds}
use Rattle.object_graph.specs.Kinds.{puts_changed_byte}
use Rattle.object_graph.proofs.changing_memory.push_changed_bytes_of.Given as goal

abbrev pub invariant-loop-k : goal.invariant-loop-k
invariant-loop-k l =
    (a : ℕ) → any_holds l.spans.items a ≡ (any_holds l.fn.spans.items a || puts_changed_byte (plain_view l.view) (plain_segment l.segment) a l.k)
