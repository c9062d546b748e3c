use Rattle.std.proofs.Common.{◌≡◌, None}
use Rattle.list_checks.specs.First.{first_below}
use Rattle.elf_reader.specs.File.{plain_view}
use Rattle.object_graph.specs.LayoutFaults.{no_area_fault}
use Rattle.object_graph.proofs.layout.check_areas.Given as goal

abbrev pub invariant-loop-g : goal.invariant-loop-g
invariant-loop-g l = first_below (no_area_fault (plain_view l.view) l.board) l.g ≡ None
