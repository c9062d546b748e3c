use Rattle.std.proofs.Common.{◌≡◌, ℕ, Bool}
use Rattle.std.specs.List.{list_any}
use Rattle.list_checks.specs.Tests.{any_below}
use Rattle.elf_reader.specs.File.{plain_view}
use Rattle.object_graph.specs.Shares.{is_high_by}
use Rattle.object_graph.proofs.shared_words.pair_addresses.Given as goal

abbrev pub invariant-loop-i : goal.invariant-loop-i
invariant-loop-i l =
    (test : ℕ → Bool) → list_any test l.pairs.items ≡ any_below (is_high_by (plain_view l.file.view.now) test) l.i
