use Rattle.std.proofs.Common.{◌≡◌}
use Rattle.elf_reader.specs.File.{plain_view}
use Rattle.list_checks.specs.Sorted.{collected}
use Rattle.object_graph.specs.Lists.{is_listed, number_of}
use Rattle.object_graph.proofs.listing.number_list.Given as goal

abbrev pub invariant-loop-k : goal.invariant-loop-k
invariant-loop-k l =
    l.list.items ≡ collected (is_listed l.listed (plain_view l.file.view.now)) (number_of l.listed (plain_view l.file.view.now)) l.k
