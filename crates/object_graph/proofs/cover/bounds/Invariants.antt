use Rattle.std.proofs.Common.{◌≡◌, ℕ, Bool}
use Rattle.std.specs.List.{count_by}
use Rattle.list_checks.specs.Sorted.{count_below}
use Rattle.elf_reader.specs.File.{plain_view}
use Rattle.object_graph.specs.Shares.{bounds_by}
use Rattle.object_graph.proofs.cover.bounds.Given as goal

abbrev pub invariant-loop-k : goal.invariant-loop-k
invariant-loop-k l =
    (test : ℕ → Bool) → count_by test l.bounds.items ≡ count_below (bounds_by (plain_view l.file.view.now) l.bound test) l.k
