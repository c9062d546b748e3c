-- The mix as it is made: the sides of the parts one by one, and the variables of a side by their places.
use Rattle.std.specs.Prelude.{ℕ, zero, suc, ◌<◌, ◌≤◌, Bool, true, false, List, [], ◌∷◌, ◌++◌, length}
use Rattle.std.specs.List.{All}
use Rattle.placement_programme.specs.Plain.{PlainFullVar, PlainFullSide}
use Rattle.placement_candidates.specs.Selected.{var_in}
use Rattle.placement_candidates.specs.Parts.{PlainPart, SidePart, off_part, on_part, mixed_gain, AreAlike, IsSmallPart}

-- the side of a part, with overlay or without, if it has one; and those of all parts
abbrev pub part_sides : Bool → PlainPart → List SidePart
part_sides false p = off_part p ∷ []
part_sides true p = on_part p.weight p.full.on

abbrev pub sides_of : Bool → List PlainPart → List SidePart
sides_of on [] = []
sides_of on (p ∷ ps) = part_sides on p ++ sides_of on ps

-- a variable like one of the parts', with the mixed gain; and the first such variables
abbrev pub mixed_at : List SidePart → List PlainFullVar → ℕ → PlainFullVar
mixed_at sides like k =
    record { name = (var_in like k).name; gain = mixed_gain sides k; weights = (var_in like k).weights }

abbrev pub mixed_vars : List SidePart → List PlainFullVar → ℕ → List PlainFullVar
mixed_vars sides like zero = []
mixed_vars sides like (suc n) = mixed_vars sides like n ++ mixed_at sides like n ∷ []

-- ---- conditions

-- the side of a part has a variable `k`, if there is that side
abbrev pub HasVar : Bool → ℕ → PlainPart → Type 0
HasVar on k p = All (λ s. k < length s.side.vars) (part_sides on p)

-- the sides of few small parts are like this one
pub record CanMixSides (on : Bool) (parts : List PlainPart) (like : PlainFullSide) : Type 0 where
  pub few : length parts ≤ 16
  pub small : All IsSmallPart parts
  pub alike : All (λ p. All (λ s. AreAlike s.side like) (part_sides on p)) parts
