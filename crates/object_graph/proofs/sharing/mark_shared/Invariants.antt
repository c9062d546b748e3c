use Rattle.std.proofs.Common.{◌≡◌, length}
use Rattle.list_checks.specs.Tests.{any_below}
use Rattle.elf_reader.specs.File.{plain_view}
use Rattle.object_graph.specs.Shares.{is_shared_from}
use Rattle.object_graph.specs.Disjoint.{AddsRule}
use Rattle.object_graph.proofs.sharing.mark_shared.Given as goal

abbrev pub invariant-loop-i : goal.invariant-loop-i
invariant-loop-i l = record {
  adds : AddsRule (λ home n. any_below (is_shared_from (plain_view l.file.view.now) home n) l.i) l.ranges l.initial.marks l.marks;
  len : length l.marks ≡ length l.initial.marks;
}
