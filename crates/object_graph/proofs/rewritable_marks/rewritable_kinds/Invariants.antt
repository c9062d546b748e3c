use Rattle.std.proofs.Common.{◌≡◌}
use Rattle.elf_reader.specs.File.{plain_view}
use Rattle.object_graph.specs.Marks.{rewritable_below}
use Rattle.object_graph.proofs.rewritable_marks.rewritable_kinds.Given as goal

abbrev pub invariant-loop-i : goal.invariant-loop-i
invariant-loop-i l = l.marks.items ≡ rewritable_below (plain_view l.file.view.now) l.i
