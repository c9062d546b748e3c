use Rattle.std.proofs.Common.{◌≡◌}
use Rattle.elf_reader.specs.File.{plain_view}
use Rattle.object_graph.specs.CodeRanges.{code_ranges_below}
use Rattle.object_graph.proofs.code.code_ranges.Given as goal

abbrev pub invariant-loop-k : goal.invariant-loop-k
invariant-loop-k l = l.ranges.items ≡ code_ranges_below (plain_view l.file.view.now) l.k
