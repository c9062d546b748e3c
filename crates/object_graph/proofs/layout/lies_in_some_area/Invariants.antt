use Rattle.std.proofs.Common.{◌≡◌, false}
use Rattle.list_checks.specs.Tests.{any_below}
use Rattle.elf_reader.specs.File.{plain_segment}
use Rattle.object_graph.specs.LayoutFaults.{lies_in_area}
use Rattle.object_graph.proofs.layout.lies_in_some_area.Given as goal

abbrev pub invariant-loop-k : goal.invariant-loop-k
invariant-loop-k l = any_below (lies_in_area l.board (plain_segment l.segment)) l.k ≡ false
