use Rattle.std.proofs.Common.{◌≡◌, ℕ, Bool}
use Rattle.std.specs.List.{list_any}
use Rattle.list_checks.specs.Tests.{any_below}
use Rattle.elf_reader.specs.File.{plain_view}
use Rattle.object_graph.specs.Shares.{is_shared_low}
use Rattle.object_graph.proofs.shared_words.shared_highs.Given as goal

abbrev pub invariant-loop-j : goal.invariant-loop-j
invariant-loop-j l =
    (test : ℕ → Bool) → list_any test l.highs.items ≡ any_below (is_shared_low (plain_view l.file.view.now) test) l.j
