-- Things that serve homes and stand one behind the other, by home address.
use Rattle.std.specs.Prelude.{◌≡◌, ℕ, nat_lt, List, map, if◌then◌else◌, AllPairs}
use Rattle.std.specs.List.{sum_by}
use Rattle.std.specs.List.Sorted.{IsPermutation, IsStrictlyIncreasing}

-- no two have one home
abbrev pub HaveHomes : {S : Type 0} → (S → ℕ) → List S → Type 0
HaveHomes home all = AllPairs (λ a b. a ≡ b → ⊥) (map home all)

-- the same things, by home address
pub record AreOrdered (S : Type 0) (home : S → ℕ) (all ordered : List S) : Type 0 where
  pub same : IsPermutation all ordered
  pub ascend : IsStrictlyIncreasing (map home ordered)

-- the bytes of one whose home is lower, and of all of these
abbrev pub bytes_if_before : {S : Type 0} → (S → ℕ) → (S → ℕ) → ℕ → S → ℕ
bytes_if_before home size at one = if nat_lt (home one) at then size one else 0

abbrev pub bytes_before : {S : Type 0} → (S → ℕ) → (S → ℕ) → ℕ → List S → ℕ
bytes_before home size at all = sum_by (bytes_if_before home size at) all
