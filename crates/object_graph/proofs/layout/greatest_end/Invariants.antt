use Rattle.std.proofs.Common.{◌≡◌, ◌≤◌}
use Rattle.elf_reader.specs.File.{plain_view}
use Rattle.object_graph.specs.LayoutFaults.{greatest_below}
use Rattle.object_graph.proofs.layout.greatest_end.Given as goal

abbrev pub invariant-loop-k : goal.invariant-loop-k
invariant-loop-k l = record {
  value : l.greatest ≡ greatest_below (plain_view l.file.view.now) l.board l.k;
  least : l.board.patch.base ≤ l.greatest;
}
