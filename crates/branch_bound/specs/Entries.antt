-- The list of assignments that plain branch and bound goes through: by the start alone, without running bests and without
-- multipliers.
use Rattle.std.specs.Prelude.{ℕ, ◌+◌, ◌-◌, ◌≤◌, pos, ◌≤ℤ◌, ◌≡◌, Bool, true, false, List, [], ◌∷◌, ◌++◌, length, slice_set, Option, Some, None}
use Rattle.std.proofs.Common.{take}
use Rattle.placement_programme.specs.Plain.{PlainSide, PlainProgramme}
use Rattle.placement_programme.specs.Programme.{IsFeasible, gain}
use Rattle.certificate_checker.specs.Shows.{all_free}
use Rattle.branch_bound.specs.Assignments.{taken, IsFull, FailsEveryLeafRule, IsGreatestFree}
use Rattle.certificate_checker.specs.declared.fixings.Fixing.{Fixing}
use Rattle.certificate_checker.specs.declared.fixings.Fixing.TheVariants.{Zero, One}

-- an entry has children
pub record Splits (s : PlainSide) (start : ℕ) (marks : List Fixing) : Type 0 where
  pub not_full : IsFull s marks → ⊥
  pub fails : FailsEveryLeafRule s start marks

-- the list that begins with an assignment: behind one with children come the list of the child that fixes the free
-- variable of greatest gain to one, and that of the child that fixes it to zero
pub data StatedFrom (s : PlainSide) (start : ℕ) : List Fixing → List (List Fixing) → Type 0 where
  alone : {marks : List Fixing} → (Splits s start marks → ⊥) → StatedFrom s start marks (marks ∷ [])
  split : {marks : List Fixing} {j : ℕ} {ones zeroes : List (List Fixing)} → Splits s start marks → IsGreatestFree s marks j → StatedFrom s start (slice_set marks j One) ones → StatedFrom s start (slice_set marks j Zero) zeroes → StatedFrom s start marks (marks ∷ (ones ++ zeroes))

-- the list of a side begins with nothing fixed; a side that isn't there has none
abbrev pub StatedOn : Option PlainSide → ℕ → List (List Fixing) → Type 0
StatedOn None start entries = entries ≡ []
StatedOn (Some s) start entries = StatedFrom s start (all_free s) entries

-- the list of a programme: that of the off side, and then that of the on side
pub record IsStated (p : PlainProgramme) (start : ℕ) (off on : List (List Fixing)) : Type 0 where
  pub off_list : StatedOn (Some p.off) start off
  pub on_list : StatedOn p.on start on

-- a fact holds of each of a list
abbrev pub Each : (List Fixing → Type 0) → List (List Fixing) → Type 0
Each P [] = Unit {0}
Each P (e ∷ es) = P e × Each P es

-- what an entry of a side takes
abbrev pub takes_on : Option PlainSide → List Fixing → List ℕ
takes_on None marks = []
takes_on (Some s) marks = taken s marks

-- where the variables that an entry fixes to one are a feasible choice, it gains at most `best`
abbrev pub GainsAtMost : PlainProgramme → Bool → Option PlainSide → ℕ → List Fixing → Type 0
GainsAtMost p on side best marks =
    IsFeasible p record { on = on; take = takes_on side marks } → gain p record { on = on; take = takes_on side marks } ≤ℤ pos best

-- a gain is no less than the start and what any of the first n entries of the list gains
pub record Reaches (p : PlainProgramme) (n best start : ℕ) (off on : List (List Fixing)) : Type 0 where
  pub from_start : start ≤ best
  pub of_off : Each (GainsAtMost p false (Some p.off) best) (take n off)
  pub of_on : Each (GainsAtMost p true p.on best) (take (n - length off) on)

-- how many variables both sides have together
abbrev pub vars_on : Option PlainSide → ℕ
vars_on None = 0
vars_on (Some s) = length s.vars

abbrev pub all_vars : PlainProgramme → ℕ
all_vars p = length p.off.vars + vars_on p.on

-- the first entry of a side fails every leaf rule
abbrev pub FailsFirst : Option PlainSide → ℕ → Type 0
FailsFirst None best = ⊥
FailsFirst (Some s) best = FailsEveryLeafRule s best (all_free s)
