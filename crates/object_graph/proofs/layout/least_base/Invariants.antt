use Rattle.std.proofs.Common.{◌≡◌, ◌≤◌}
use Rattle.elf_reader.specs.File.{plain_view}
use Rattle.object_graph.specs.LayoutFaults.{least_below}
use Rattle.object_graph.proofs.layout.least_base.Given as goal

abbrev pub invariant-loop-k : goal.invariant-loop-k
invariant-loop-k l = record {
  value : l.least ≡ least_below (plain_view l.file.view.now) l.board l.k;
  most : l.least ≤ l.board.patch.base;
}
