-- The functions of a program as keys in their order, and the list of those that are kept.
use Rattle.std.specs.Prelude.{◌≡◌, ℕ, ◌+◌, ◌-◌, ◌*◌, ◌%◌, ◌^◌, ◌<◌, ◌≤◌, Bool, ◌&&◌, List, length, map}
use Rattle.std.specs.List.{All, AllPairs, list_any}
use Rattle.std.specs.List.Sorted.{IsStrictlyIncreasing}
use Rattle.list_checks.specs.Tests.{any_below}
use Rattle.elf_reader.specs.File.{PlainView}
use Rattle.loaded_file.specs.Records.{symbol_at}
use Rattle.code_blocks.specs.Functions.{is_function, IsKept}
use Rattle.code_blocks.specs.Blocks.{name_of, IsFunction}
use Rattle.code_blocks.specs.declared.parts.Function.{Function}

-- a function as one number: numbers ascend as functions come, by start, then from the largest size down, and
-- then by symbol
abbrev pub key_of : ℕ → ℕ → ℕ → ℕ
key_of start size name = (start * 4294967296 + (4294967295 - size)) * 4294967296 + name

-- the symbol in such a number
abbrev pub name_in : ℕ → ℕ
name_in key = key % 4294967296

abbrev pub key_at : PlainView → ℕ → ℕ
key_at v k = key_of (symbol_at v k).value (symbol_at v k).size k

-- symbol `k` is of a function whose key passes
abbrev pub passes_key : PlainView → (ℕ → Bool) → ℕ → Bool
passes_key v test k = is_function v k && test (key_at v k)

-- the keys of all functions, ascending
pub record AreKeys (v : PlainView) (keys : List ℕ) : Type 0 where
  pub ascending : IsStrictlyIncreasing keys
  pub exact : (test : ℕ → Bool) → list_any test keys ≡ any_below (passes_key v test) (length v.symbols)
  pub few : length keys ≤ length v.symbols

-- each function ends where a later one begins, or before
abbrev pub AreDisjoint : List Function → Type 0
AreDisjoint functions = AllPairs (λ f g. f.start + f.size ≤ g.start) functions

-- the functions that are kept
pub record AreKept (v : PlainView) (functions : List Function) : Type 0 where
  pub kept : IsKept v (map name_of functions)
  pub told : All (IsFunction v) functions
  pub disjoint : AreDisjoint functions
  pub few : length functions < 2 ^ 32
