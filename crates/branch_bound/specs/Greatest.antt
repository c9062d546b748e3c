-- The number of greatest gain among those below n of which a fact holds, the lowest on a tie.
use Rattle.std.specs.Prelude.{ℕ, ◌<◌, ◌≤◌, Option, Some, None}

pub record IsGreatestOf (P : ℕ → Type 0) (gain : ℕ → ℕ) (n j : ℕ) : Type 0 where
  pub inside : j < n
  pub holds : P j
  pub greatest : (k : ℕ) → k < n → P k → gain k ≤ gain j
  pub first : (k : ℕ) → k < j → P k → gain k < gain j

-- the greatest below n, or none where the fact holds of none
abbrev pub Greatest : (ℕ → Type 0) → (ℕ → ℕ) → ℕ → Option ℕ → Type 0
Greatest P gain n None = (k : ℕ) → k < n → P k → ⊥
Greatest P gain n (Some j) = IsGreatestOf P gain n j

-- a number's gain is above that of the greatest so far, if there is one
abbrev pub GainsMore : (ℕ → ℕ) → Option ℕ → ℕ → Type 0
GainsMore gain None n = Unit {0}
GainsMore gain (Some j) n = gain j < gain n
