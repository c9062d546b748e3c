use Rattle.std.proofs.Common.{◌≡◌, ℕ}
use Rattle.std.specs.List.{list_any}
use Rattle.list_checks.specs.Tests.{any_below}
use Rattle.elf_reader.specs.File.{plain_view}
use Rattle.loaded_file.specs.Ranges.{is_symbol_of}
use Rattle.loaded_file.specs.ByteRanges.{is_key_of}
use Rattle.loaded_file.proofs.symbol_ranges.range_keys.Given as goal

abbrev pub invariant-loop-k : goal.invariant-loop-k
invariant-loop-k l =
    (home n : ℕ) → list_any (is_key_of home n) l.keys.items ≡ any_below (is_symbol_of (plain_view l.file.view.now) home n) l.k
