use Rattle.std.proofs.Common.{◌≡◌, ℕ, ◌||◌, length}
use Rattle.list_checks.specs.Tests.{any_below}
use Rattle.elf_reader.specs.File.{plain_view}
use Rattle.object_graph.specs.Disjoint.{mark_at}
use Rattle.object_graph.specs.Aliases.{is_hit_in}
use Rattle.object_graph.proofs.aliasing.mark_hits.Given as goal

abbrev pub invariant-loop-k : goal.invariant-loop-k
invariant-loop-k l = record {
  adds : (s : ℕ) → mark_at l.aliased s ≡ (mark_at l.initial.aliased s || any_below (is_hit_in (plain_view l.file.view.now) s) l.k);
  len : length l.aliased ≡ length l.initial.aliased;
}
