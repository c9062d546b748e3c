-- Which function of a program a name stands for, and in which one an address lies.
use Rattle.std.specs.Prelude.{ℕ, ◌<◌, ◌==◌, Bool, not, ◌&&◌, List, length, slice_index_or, Option, None, bytes_eq, if◌then◌else◌}
use Rattle.std.specs.List.{All}
use Rattle.list_checks.specs.First.{unless, first_below}
use Rattle.elf_reader.specs.File.{PlainView}
use Rattle.loaded_file.specs.Records.{symbol_at}
use Rattle.code_blocks.specs.Blocks.{no_function}
use Rattle.code_blocks.specs.Kept.{AreDisjoint}
use Rattle.code_blocks.specs.declared.parts.Function.{Function}

-- function `j`; an empty one behind the last
abbrev pub function_in : List Function → ℕ → Function
function_in functions j = slice_index_or functions j no_function

-- the function that starts at an address: the first of them that does
abbrev pub place_if_starts : List Function → ℕ → ℕ → Option ℕ
place_if_starts functions a j = unless (not ((function_in functions j).start == a)) j

abbrev pub function_at : List Function → ℕ → Option ℕ
function_at functions a = first_below (place_if_starts functions a) (length functions)

-- symbol `k` is of a function (STT_FUNC, 2) and has this name
abbrev pub is_named : PlainView → List ℕ → ℕ → Bool
is_named v name k = ((symbol_at v k).kind == 2) && bytes_eq (symbol_at v k).name name

-- the function that starts at the value of symbol `k`, if that has the name
abbrev pub named_by : PlainView → List Function → List ℕ → ℕ → Option ℕ
named_by v functions name k = if is_named v name k then function_at functions (symbol_at v k).value else None

-- the function that a name stands for: that at the value of the first symbol of a function with this name at
-- whose value one starts
abbrev pub function_named : PlainView → List Function → List ℕ → Option ℕ
function_named v functions name = first_below (named_by v functions name) (length v.symbols)

-- functions that each have a byte, and end where a later one begins, or before
pub record AreOrdered (functions : List Function) : Type 0 where
  pub disjoint : AreDisjoint functions
  pub filled : All (λ f. 0 < f.size) functions
