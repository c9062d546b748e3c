-- Into which addresses and sections relocations alias.
use Rattle.std.specs.Prelude.{ℕ, ◌==◌, Bool, ◌&&◌, ◌||◌, length}
use Rattle.list_checks.specs.Tests.{any_below}
use Rattle.elf_reader.specs.File.{PlainView}
use Rattle.loaded_file.specs.Records.{symbol_at, reloc_at, counts, symbol_of, target}
use Rattle.loaded_file.specs.Ranges.{has_range, inside}
use Rattle.object_graph.specs.Fixed.{is_alias}

-- relocation `i` aliases, and its symbol or its target passes a test of addresses
abbrev pub aliases_by : PlainView → (ℕ → Bool) → ℕ → Bool
aliases_by v test i =
    counts v (reloc_at v i)
    && is_alias v (symbol_of v (reloc_at v i))
    && (test (symbol_of v (reloc_at v i)).value || test (target v (reloc_at v i)))

-- some relocation aliases the `n` bytes at `home`
abbrev pub is_hit : PlainView → ℕ → ℕ → Bool
is_hit v home n = any_below (aliases_by v (inside home n)) (length v.relocs)

-- symbol `k` is of an object of section `section` into which one aliases
abbrev pub is_hit_in : PlainView → ℕ → ℕ → Bool
is_hit_in v section k =
    has_range v (symbol_at v k)
    && is_hit v (symbol_at v k).value (symbol_at v k).size
    && ((symbol_at v k).section == section)
