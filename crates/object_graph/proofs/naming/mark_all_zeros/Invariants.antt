use Rattle.std.proofs.Common.{◌≡◌, length}
use Rattle.list_checks.specs.Tests.{any_below}
use Rattle.elf_reader.specs.File.{plain_view}
use Rattle.object_graph.specs.Fixed.{stands_in_zeros}
use Rattle.object_graph.specs.Disjoint.{AddsRule}
use Rattle.object_graph.proofs.naming.mark_all_zeros.Given as goal

abbrev pub invariant-loop-k : goal.invariant-loop-k
invariant-loop-k l = record {
  adds : AddsRule (λ home n. any_below (stands_in_zeros (plain_view l.file.view.now) home n) l.k) l.ranges l.initial.marks l.marks;
  len : length l.marks ≡ length l.initial.marks;
}
