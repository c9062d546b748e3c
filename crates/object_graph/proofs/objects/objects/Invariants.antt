use Rattle.std.proofs.Common.{◌≡◌, map, take}
use Rattle.std.specs.List.{All}
use Rattle.elf_reader.specs.File.{plain_view}
use Rattle.object_graph.specs.Graphs.{IsNamed}
use Rattle.object_graph.specs.Gathered.{range_of}
use Rattle.object_graph.proofs.objects.objects.Given as goal

abbrev pub invariant-loop-k : goal.invariant-loop-k
invariant-loop-k l = record {
  ranges : map range_of l.objects.items ≡ take l.k l.ranges;
  named : All (IsNamed (plain_view l.file.view.now)) l.objects.items;
}
