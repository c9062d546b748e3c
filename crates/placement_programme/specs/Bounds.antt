-- The bounds within which a programme stays, so that no sum over it passes 128 bits.
use Rattle.std.specs.Prelude.{ℕ, suc, ◌^◌, ◌<◌, ◌≤◌, List, [], ◌∷◌, map, length, unsigned_abs, slice_index_or}
use Rattle.std.specs.List.{All, sum_by}
use Rattle.std.specs.Coded.{Unit-prop, le_prop}
use Rattle.placement_programme.specs.Plain.{PlainSide, PlainFullSide}

-- numbers that ascend, each once, from `low` on and below `high`
abbrev pub AscendWithin : ℕ → ℕ → List ℕ → Type 0
AscendWithin low high [] = Unit {0}
AscendWithin low high (n ∷ ns) = (low ≤ n) × (n < high) × AscendWithin (suc n) high ns

-- the row and the value of an entry
abbrev pub row_of : ℕ × ℕ → ℕ
row_of entry = entry.0

abbrev pub value_of : ℕ × ℕ → ℕ
value_of entry = entry.1

-- the rows of some entries ascend, each once, from `low` on and below `high`
abbrev pub RowsWithin : ℕ → ℕ → List (ℕ × ℕ) → Type 0
RowsWithin low high entries = AscendWithin low high (map row_of entries)

-- weights in `count` rows: at most one a row, each below 2 ^ 32
pub record AreWeights (count : ℕ) (weights : List (ℕ × ℕ)) : Type 0 where
  pub ascending : RowsWithin 0 count weights
  pub small : All (λ w. value_of w < 2 ^ 32) weights

-- the bounds of a side
pub record IsWithinBounds (side : PlainSide) : Type 0 where
  pub fixed : side.fixed < 2 ^ 104
  pub gains : sum_by (λ v. v.gain) side.vars < 2 ^ 104
  pub few_vars : length side.vars ≤ 4000
  pub few_rows : length side.rows < 2 ^ 17
  pub capacities : All (λ c. c < 2 ^ 32) side.rows
  pub weights : All (λ v. AreWeights (length side.rows) v.weights) side.vars

-- the bounds before variables are left out, for the gains without their signs
pub record IsWithinFullBounds (side : PlainFullSide) : Type 0 where
  pub fixed : side.fixed < 2 ^ 104
  pub gains : sum_by (λ v. unsigned_abs v.gain) side.vars < 2 ^ 104
  pub few_rows : length side.rows < 2 ^ 17
  pub capacities : All (λ c. c < 2 ^ 32) side.rows
  pub weights : All (λ v. AreWeights (length side.rows) v.weights) side.vars

-- each of these facts has at most one proof
pub ascend_prop : (low high : ℕ) (ns : List ℕ) → IsProp (AscendWithin low high ns)
ascend_prop low high [] = Unit-prop
ascend_prop low high (n ∷ ns) =
    λ a b i. (le_prop a.0 b.0 i, le_prop a.1 b.1 i, ascend_prop (suc n) high ns a.2 b.2 i)

pub small_prop : (f : ℕ × ℕ → ℕ) (bound : ℕ) (ws : List (ℕ × ℕ)) → IsProp (All (λ w. f w < bound) ws)
small_prop f bound ws = λ a b i k d below. le_prop (a k d below) (b k d below) i

pub weights_prop : (count : ℕ) (ws : List (ℕ × ℕ)) → IsProp (AreWeights count ws)
weights_prop count ws =
    λ a b i. record {
      ascending = ascend_prop 0 count (map row_of ws) a.ascending b.ascending i;
      small = small_prop value_of (2 ^ 32) ws a.small b.small i;
    }

pub capacities_prop : (bound : ℕ) (cs : List ℕ) → IsProp (All (λ c. c < bound) cs)
capacities_prop bound cs = λ a b i k d below. le_prop (a k d below) (b k d below) i

pub bounds_prop : (side : PlainSide) → IsProp (IsWithinBounds side)
bounds_prop side =
    λ a b i. record {
      fixed = le_prop a.fixed b.fixed i;
      gains = le_prop a.gains b.gains i;
      few_vars = le_prop a.few_vars b.few_vars i;
      few_rows = le_prop a.few_rows b.few_rows i;
      capacities = capacities_prop (2 ^ 32) side.rows a.capacities b.capacities i;
      weights = λ k d below. weights_prop (length side.rows) (slice_index_or side.vars k d).weights (a.weights k d below) (b.weights k d below) i;
    }

pub full_bounds_prop : (side : PlainFullSide) → IsProp (IsWithinFullBounds side)
full_bounds_prop side =
    λ a b i. record {
      capacities = capacities_prop (2 ^ 32) side.rows a.capacities b.capacities i;
      fixed = le_prop a.fixed b.fixed i;
      gains = le_prop a.gains b.gains i;
      few_rows = le_prop a.few_rows b.few_rows i;
      weights = λ k d below. weights_prop (length side.rows) (slice_index_or side.vars k d).weights (a.weights k d below) (b.weights k d below) i;
    }
