use Rattle.std.proofs.Common.{◌≡◌, None}
use Rattle.list_checks.specs.First.{first_below}
use Rattle.elf_reader.specs.File.{plain_view}
use Rattle.object_graph.specs.LayoutFaults.{overlap_fault}
use Rattle.object_graph.proofs.layout.check_overlaps.Given as goal

abbrev pub invariant-loop-g : goal.invariant-loop-g
invariant-loop-g l = first_below (overlap_fault l.reserved (plain_view l.view) l.board) l.g ≡ None
