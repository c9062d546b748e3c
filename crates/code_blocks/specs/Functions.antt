-- The functions of a program's code: of those that overlap, the first and largest.
use Rattle.std.specs.Prelude.{◌≡◌, ℕ, ◌==◌, nat_lt, Bool, true, not, ◌&&◌, ◌||◌, List, length}
use Rattle.std.specs.List.{AllPairs, list_any}
use Rattle.list_checks.specs.Tests.{any_below, lies_in, ranges_overlap}
use Rattle.elf_reader.specs.File.{PlainView}
use Rattle.elf_reader.specs.Loaded.{section_at}
use Rattle.loaded_file.specs.Code.{is_code_range}
use Rattle.loaded_file.specs.Records.{symbol_at}
use Rattle.code_blocks.specs.Early.{has}

-- the whole range of symbol `k` lies in code range `j`
abbrev pub lies_in_range : PlainView → ℕ → ℕ → Bool
lies_in_range v k j =
    is_code_range v j && lies_in (section_at v j).addr (section_at v j).size (symbol_at v k).value (symbol_at v k).size

-- symbol `k` is of a function (STT_FUNC, 2) that has a size and lies in a code range
abbrev pub is_function : PlainView → ℕ → Bool
is_function v k =
    nat_lt k (length v.symbols)
    && ((symbol_at v k).kind == 2)
    && nat_lt 0 (symbol_at v k).size
    && any_below (lies_in_range v k) (length v.sections)

-- a function begins earlier than another; or is larger; or has the lower symbol
abbrev pub comes_before : PlainView → ℕ → ℕ → Bool
comes_before v k j =
    nat_lt (symbol_at v k).value (symbol_at v j).value
    || ((symbol_at v k).value == (symbol_at v j).value)
    && (nat_lt (symbol_at v j).size (symbol_at v k).size || ((symbol_at v k).size == (symbol_at v j).size) && nat_lt k j)

-- two functions share a byte
abbrev pub functions_overlap : PlainView → ℕ → ℕ → Bool
functions_overlap v k j =
    ranges_overlap (symbol_at v k).value (symbol_at v k).size (symbol_at v j).value (symbol_at v j).size

-- function `j` keeps function `k` out: it comes before it and shares a byte with it
abbrev pub keeps_out : PlainView → ℕ → ℕ → Bool
keeps_out v k j = comes_before v j k && functions_overlap v j k

-- the symbols of the functions that are kept, in their order: those that no kept one keeps out
pub record IsKept (v : PlainView) (kept : List ℕ) : Type 0 where
  pub ordered : AllPairs (λ k j. comes_before v k j ≡ true) kept
  pub exact : (k : ℕ) → has kept k ≡ is_function v k && not (list_any (keeps_out v k) kept)
