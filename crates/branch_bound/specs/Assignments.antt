-- Partial assignments of a side: a mark a variable, as in the nodes of a certificate. What those fixed to one take, and
-- which assignments no rule of a leaf closes.
use Rattle.std.specs.Prelude.{ℕ, zero, suc, ◌<◌, ◌≡◌, Bool, true, false, List, [], ◌∷◌, ◌++◌, length}
use Rattle.placement_programme.specs.Plain.{PlainSide}
use Rattle.placement_programme.specs.Programme.{gain_at}
use Rattle.placement_programme.specs.Sums.{takes}
use Rattle.branch_bound.specs.Greatest.{IsGreatestOf}
use Rattle.certificate_checker.specs.Rules.{OverHolds, LeafHolds, DualHolds}
use Rattle.certificate_checker.specs.Fixings.{fixing_of}
use Rattle.certificate_checker.specs.declared.fixings.Fixing.{Fixing}
use Rattle.certificate_checker.specs.declared.fixings.Fixing.TheVariants.{Zero, One, Free}

-- a number where its variable is fixed to one
abbrev pub number_if : Fixing → ℕ → List ℕ
number_if Zero n = []
number_if One n = n ∷ []
number_if Free n = []

-- the numbers below n whose variables are fixed to one, ascending
abbrev pub ones_below : ℕ → List Fixing → List ℕ
ones_below zero marks = []
ones_below (suc n) marks = ones_below n marks ++ number_if (fixing_of marks n) n

-- what an assignment takes
abbrev pub taken : PlainSide → List Fixing → List ℕ
taken s marks = ones_below (length s.vars) marks

-- marks of which those are one whose numbers are taken, and the others are free
abbrev pub mark_if : Bool → Fixing
mark_if true = One
mark_if false = Free

pub record AreMarksOf (s : PlainSide) (take : List ℕ) (marks : List Fixing) : Type 0 where
  pub long : length marks ≡ length s.vars
  pub exact : (j : ℕ) → j < length s.vars → fixing_of marks j ≡ mark_if (takes take j)

-- all variables are fixed
abbrev pub IsFull : PlainSide → List Fixing → Type 0
IsFull s marks = (j : ℕ) → j < length s.vars → fixing_of marks j ≡ Free → ⊥

-- an assignment fails every leaf rule: it exceeds no row, it isn't full with gains of at most `best`, and the dual rule
-- with scale 1 and no multipliers doesn't bound it
pub record FailsEveryLeafRule (s : PlainSide) (best : ℕ) (marks : List Fixing) : Type 0 where
  pub within : (row : ℕ) → OverHolds s marks row → ⊥
  pub open_or_better : LeafHolds s best marks → ⊥
  pub unbounded : DualHolds s best marks 1 [] → ⊥

-- the free variable of greatest gain, the lowest number on a tie
abbrev pub IsGreatestFree : PlainSide → List Fixing → ℕ → Type 0
IsGreatestFree s marks j = IsGreatestOf (λ k. fixing_of marks k ≡ Free) (gain_at s.vars) (length s.vars) j
