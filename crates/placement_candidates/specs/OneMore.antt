-- A mix with one part more, as it is made: sums by weight, side by side and variable by variable.
use Rattle.std.specs.Prelude.{ℕ, zero, suc, ◌+◌, ◌*◌, ◌≤◌, pos, ◌+ℤ◌, ◌*ℤ◌, List, [], ◌∷◌, ◌++◌, length, Option, Some, None}
use Rattle.placement_programme.specs.Plain.{PlainFullVar, PlainFullSide, PlainFull}
use Rattle.placement_programme.specs.Bounds.{IsWithinFullBounds}
use Rattle.placement_candidates.specs.Selected.{var_in}
use Rattle.placement_candidates.specs.Parts.{PlainPart, gain_of, IsMix, CanMix}

-- variable `k` of a mixed side with what a part's side gains there; and the first such variables
abbrev pub more_at : ℕ → PlainFullSide → List PlainFullVar → ℕ → PlainFullVar
more_at weight side total k =
    record { name = (var_in total k).name; gain = (var_in total k).gain +ℤ pos weight *ℤ gain_of side k; weights = (var_in total k).weights }

abbrev pub more_vars : ℕ → PlainFullSide → List PlainFullVar → ℕ → List PlainFullVar
more_vars weight side total zero = []
more_vars weight side total (suc n) = more_vars weight side total n ++ more_at weight side total n ∷ []

abbrev pub more_side : ℕ → PlainFullSide → PlainFullSide → PlainFullSide
more_side weight side total =
    record {
      fixed = total.fixed + weight * side.fixed;
      rows = total.rows;
      vars = more_vars weight side total.vars (length total.vars);
    }

abbrev pub more_on : ℕ → Option PlainFullSide → Option PlainFullSide → Option PlainFullSide
more_on weight None total = None
more_on weight (Some side) None = None
more_on weight (Some side) (Some total) = Some (more_side weight side total)

abbrev pub more_full : PlainPart → PlainFull → PlainFull
more_full p total =
    record {
      base = total.base + p.weight * p.full.base;
      off = more_side p.weight p.full.off total.off;
      on = more_on p.weight p.full.on total.on;
    }

-- ---- conditions

-- a side has no more variables than that of a part, and stays within the bounds with what it gains
pub record CanAddSide (weight : ℕ) (side total : PlainFullSide) : Type 0 where
  pub count : length total.vars ≤ length side.vars
  pub within : IsWithinFullBounds (more_side weight side total)

abbrev pub CanAddOn : ℕ → Option PlainFullSide → Option PlainFullSide → Type 0
CanAddOn weight None total = Unit {0}
CanAddOn weight (Some side) None = Unit {0}
CanAddOn weight (Some side) (Some total) = CanAddSide weight side total

-- this is the mix of some parts, with which one more may be mixed
pub record CanAdd (total : PlainFull) (p : PlainPart) : Type 0 where
  pub parts : List PlainPart
  pub some : 1 ≤ length parts
  pub is : IsMix parts total
  pub can : CanMix (parts ++ p ∷ [])
