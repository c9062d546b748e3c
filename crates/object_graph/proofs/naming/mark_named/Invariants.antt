use Rattle.std.proofs.Common.{◌≡◌, length}
use Rattle.list_checks.specs.Tests.{any_below}
use Rattle.elf_reader.specs.File.{plain_view}
use Rattle.object_graph.specs.Names.{has_name, is_named_by}
use Rattle.object_graph.specs.Disjoint.{AddsRule}
use Rattle.object_graph.proofs.naming.mark_named.Given as goal

abbrev pub invariant-loop-k : goal.invariant-loop-k
invariant-loop-k l = record {
  adds : AddsRule (λ home n. any_below (is_named_by (plain_view l.file.view.now) (has_name l.names) home n) l.k) l.ranges l.initial.marks l.marks;
  len : length l.marks ≡ length l.initial.marks;
}
