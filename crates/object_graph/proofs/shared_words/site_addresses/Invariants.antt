use Rattle.std.proofs.Common.{◌≡◌, ℕ, Bool}
use Rattle.std.specs.List.{count_by}
use Rattle.list_checks.specs.Sorted.{count_below}
use Rattle.elf_reader.specs.File.{plain_view}
use Rattle.object_graph.specs.Shares.{gives_by}
use Rattle.object_graph.proofs.shared_words.site_addresses.Given as goal

abbrev pub invariant-loop-j : goal.invariant-loop-j
invariant-loop-j l =
    (test : ℕ → Bool) → count_by test l.sites.items ≡ count_below (gives_by (plain_view l.file.view.now) test) l.j
