-- The greedy choice of a side: first the variable of greatest gain that is feasible alone, the lowest number on a tie, and
-- then each other variable in order where the choice stays feasible.
use Rattle.std.specs.Prelude.{ℕ, zero, suc, ◌-◌, ◌<◌, ◌≤◌, ◌≡◌, ◌⊎◌, max, Bool, List, [], ◌∷◌, length, slice_set, Option, Some, None}
use Rattle.placement_programme.specs.Plain.{PlainSide, PlainProgramme, PlainChoice}
use Rattle.placement_programme.specs.Programme.{gain_at, taken_gains, Fits, nothing}
use Rattle.certificate_checker.specs.Shows.{all_free}
use Rattle.branch_bound.specs.Assignments.{taken}
use Rattle.branch_bound.specs.Greatest.{IsGreatestOf}
use Rattle.certificate_checker.specs.declared.fixings.Fixing.{Fixing}
use Rattle.certificate_checker.specs.declared.fixings.Fixing.TheVariants.{One}

-- a variable is feasible alone
abbrev pub FitsAlone : PlainSide → ℕ → Type 0
FitsAlone s j = Fits s (j ∷ [])

-- the one of greatest gain, the lowest number on a tie
abbrev pub IsBestAlone : PlainSide → ℕ → Type 0
IsBestAlone s j = IsGreatestOf (FitsAlone s) (gain_at s.vars) (length s.vars) j

-- a variable is taken too where the choice stays feasible
abbrev pub Tries : PlainSide → List Fixing → ℕ → List Fixing → Type 0
Tries s before k after =
    (Fits s (taken s (slice_set before k One)) × (after ≡ slice_set before k One))
    ⊎ ((Fits s (taken s (slice_set before k One)) → ⊥) × (after ≡ before))

-- the variables below n were tried in order
abbrev pub Grows : PlainSide → List Fixing → ℕ → List Fixing → Type 0
Grows s start zero marks = marks ≡ start
Grows s start (suc n) marks = (before : List Fixing) × (Grows s start n before × Tries s before n marks)

-- what is taken where some variable is feasible alone
pub record GrowsTo (s : PlainSide) (j : ℕ) (marks : List Fixing) : Type 0 where
  pub first : IsBestAlone s j
  pub others : Grows s (slice_set (all_free s) j One) (length s.vars) marks

abbrev pub NothingFitsAlone : PlainSide → Type 0
NothingFitsAlone s = (j : ℕ) → j < length s.vars → FitsAlone s j → ⊥

-- what the greedy choice of a side takes; None where it is the empty choice: nothing fits alone, or the gain is below 0
abbrev pub IsGreedy : PlainSide → Option (List ℕ) → Type 0
IsGreedy s None =
    NothingFitsAlone s
    ⊎ ((j : ℕ) × ((marks : List Fixing) × (GrowsTo s j marks × (taken_gains s (taken s marks) < s.fixed))))
IsGreedy s (Some take) =
    (j : ℕ)
    × ((marks : List Fixing)
    × (GrowsTo s j marks × (s.fixed ≤ taken_gains s (taken s marks)) × (take ≡ taken s marks)))

-- the choice itself
abbrev pub choice_on : Bool → Option (List ℕ) → PlainChoice
choice_on on None = nothing
choice_on on (Some take) = record { on = on; take = take }

-- its gain
abbrev pub greedy_gain : PlainSide → Option (List ℕ) → ℕ
greedy_gain s None = 0
greedy_gain s (Some take) = taken_gains s take - s.fixed

-- what the greedy choice of a side gains; 0 where there is no side
abbrev pub GreedyGains : Option PlainSide → ℕ → Type 0
GreedyGains None gains = gains ≡ 0
GreedyGains (Some s) gains = (choice : Option (List ℕ)) × (IsGreedy s choice × (gains ≡ greedy_gain s choice))

-- the start of a programme: the greatest gain of the greedy choices of its sides
abbrev pub IsStart : PlainProgramme → ℕ → Type 0
IsStart p start =
    (off : ℕ) × ((on : ℕ) × (GreedyGains (Some p.off) off × GreedyGains p.on on × (start ≡ max off on)))
