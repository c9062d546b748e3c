-- What the first search of a programme comes upon with a budget of nodes, which `solve` keeps.
use Rattle.std.specs.Prelude.{ℕ, ◌/◌, ◌≡◌, ◌⊎◌, min, max, length, pos, ◌≤ℤ◌, Bool, true, false, ◌&&◌, List}
use Rattle.placement_programme.specs.Plain.{PlainSide, PlainProgramme}
use Rattle.placement_programme.specs.Programme.{gain}
use Rattle.placement_programme.specs.Views.{plain_choice}
use Rattle.certificate_checker.specs.declared.fixings.Fixing.{Fixing}
use Rattle.lagrangian_bound.specs.declared.guiding.NodeBound.{NodeBound}
use Rattle.branch_bound.specs.Entries.{vars_on}
use Rattle.branch_bound.specs.Guided.{SearchesSide, SearchesOn}
use Rattle.branch_bound.specs.declared.outcomes.Found.{Found}
use Rattle.branch_bound.specs.declared.outcomes.Status.TheVariants.{Optimal}
use Rattle.branch_bound.specs.declared.side_visiting.Round.{Round}
use Rattle.branch_bound.specs.declared.side_visiting.Round.TheVariants.{Certified, Unfinished}

-- how many nodes of a side a round may visit: so many at most, fewer where a side has many variables, and no more than the
-- budget
abbrev pub nodes_within : ℕ → ℕ → PlainProgramme → ℕ → ℕ
nodes_within nodes vars p budget =
    min (min budget nodes) (vars / max (max (length p.off.vars) (vars_on p.on)) 1)

-- A round comes to no end: it searches the off side and then the on side, with so many nodes each, and not both to their
-- end. One that needs the off side leaves the other out where that one came to no end.
abbrev pub SearchesBoth : {G : Type 0} → (G → PlainSide → List Fixing → ℕ → NodeBound → G → Type 0) → PlainProgramme → ℕ → Bool → ℕ → ℕ → Type 0
SearchesBoth answers p nodes needs_off best more =
    (off : Bool)
    × ((between : ℕ)
    × (SearchesSide answers p false p.off nodes best off between
    × (((needs_off ≡ true) × (off ≡ false) × (more ≡ between))
    ⊎ ((on : Bool) × (SearchesOn answers p p.on nodes between on more × ((off && on) ≡ false))))))

-- both rounds come to no end, and what the best choice gains that they come upon
abbrev pub FirstSearch : {G : Type 0} → (G → PlainSide → List Fixing → ℕ → NodeBound → G → Type 0) → PlainProgramme → ℕ → ℕ → Type 0
FirstSearch answers p nodes gains =
    (first : ℕ)
    × (SearchesBoth answers p (nodes_within 1000 1000000 p nodes) false 0 first
    × SearchesBoth answers p (nodes_within 10000 8000000 p nodes) true first gains)

-- what is told of a round without a certificate
abbrev pub IfUnfinished : (ℕ → Type 0) → Round → Type 0
IfUnfinished P (Certified c) = Unit {0}
IfUnfinished P (Unfinished best) = P best.gain

-- a choice is shown to be best, or gains no less than what the first search with this budget comes upon
abbrev pub KeepsFirst : {G : Type 0} → (G → PlainSide → List Fixing → ℕ → NodeBound → G → Type 0) → PlainProgramme → ℕ → Found → Type 0
KeepsFirst answers p nodes found =
    (found.status ≡ Optimal)
    ⊎ ((gains : ℕ) × (FirstSearch answers p nodes gains × (pos gains ≤ℤ gain p (plain_choice found.choice))))
