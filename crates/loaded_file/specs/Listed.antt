-- Sorted lists of the values of the places that pass a test.
use Rattle.std.specs.Prelude.{◌≡◌, ℕ, Bool, ◌&&◌, List}
use Rattle.std.specs.List.{count_by, list_any}
use Rattle.list_checks.specs.Tests.{any_below}
use Rattle.list_checks.specs.Sorted.{IsSorted, count_below}

-- place `k` passes a test, and its value another one
abbrev pub passes_with : (ℕ → Bool) → (ℕ → ℕ) → (ℕ → Bool) → ℕ → Bool
passes_with test value asked k = test k && asked (value k)

-- a sorted list has the values of the places below n that pass a test
pub record IsListOf (test : ℕ → Bool) (value : ℕ → ℕ) (n : ℕ) (list : List ℕ) : Type 0 where
  pub sorted : IsSorted list
  pub any : (asked : ℕ → Bool) → list_any asked list ≡ any_below (passes_with test value asked) n
  pub counted : (asked : ℕ → Bool) → count_by asked list ≡ count_below (passes_with test value asked) n
