-- What the best choice so far is.
use Rattle.std.specs.Prelude.{◌≤◌}
use Rattle.placement_programme.specs.Plain.{PlainProgramme}
use Rattle.placement_programme.specs.Views.{plain_choice}
use Rattle.certificate_checker.specs.Shows.{IsAccepted}
use Rattle.branch_bound.specs.declared.side_incumbents.Incumbent.{Incumbent}

-- the choice is feasible and gains what is said
abbrev pub IsSound : PlainProgramme → Incumbent → Type 0
IsSound p best = IsAccepted p (plain_choice best.choice) best.gain

-- a search leaves a choice that is sound and gains no less, and no more nodes to visit than it found
pub record GoesOn (p : PlainProgramme) (old new : Incumbent) : Type 0 where
  pub sound : IsSound p new
  pub grows : old.gain ≤ new.gain
  pub spends : new.left ≤ old.left
