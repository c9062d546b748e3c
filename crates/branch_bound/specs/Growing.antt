-- When a choice can be grown.
use Rattle.std.specs.Prelude.{ℕ, ◌≤ℤ◌, ◌≡◌, false, List, ◌∷◌}
use Rattle.placement_programme.specs.Plain.{PlainProgramme, PlainChoice}
use Rattle.placement_programme.specs.Programme.{IsFeasible, gain}
use Rattle.placement_programme.specs.Sums.{takes}

-- variable k is taken besides
abbrev pub Adds : List ℕ → ℕ → List ℕ → Type 0
Adds some k more = (takes some k ≡ false) × ((j : ℕ) → takes more j ≡ takes (k ∷ some) j)

-- no variable can be added to a choice so that it stays feasible and its gain grows
abbrev pub CannotGrow : PlainProgramme → PlainChoice → Type 0
CannotGrow p c =
    (k : ℕ) (more : List ℕ) → Adds c.take k more → IsFeasible p record { on = c.on; take = more }
    → gain p record { on = c.on; take = more } ≤ℤ gain p c
