use Rattle.std.proofs.Common.{◌≡◌, ◌≤◌, ℕ, Bool, length}
use Rattle.std.specs.List.{list_any}
use Rattle.list_checks.specs.Tests.{any_below}
use Rattle.elf_reader.specs.File.{plain_view}
use Rattle.code_blocks.specs.Kept.{passes_key}
use Rattle.code_blocks.proofs.candidates.unsorted_keys.Given as goal

abbrev pub invariant-loop-k : goal.invariant-loop-k
invariant-loop-k l =
    ((test : ℕ → Bool) → list_any test l.keys.items ≡ any_below (passes_key (plain_view l.file.view.now) test) l.k)
    × (length l.keys.items ≤ l.k)
