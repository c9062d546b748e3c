-- The programme that several runs of one program state, each with a weight: energies are sums over the runs.
use Rattle.std.specs.Prelude.{◌≡◌, ℕ, ◌*◌, ◌-◌, ℤ, pos, ◌-ℤ◌, Bool, true, false, if◌then◌else◌, List, [], ◌∷◌, ◌++◌, map, Option, Some, None}
use Rattle.std.specs.List.{sum_by}
use Rattle.placement_programme.specs.declared.variables.VarName.{VarName}
use Rattle.placement_programme.specs.Plain.{PlainFullVar, PlainFullSide, PlainFull, PlainProgramme, PlainChoice}
use Rattle.placement_programme.specs.Programme.{IsFeasible, energy as programme_energy}
use Rattle.placement_programme.specs.Rows.{Layout, Candidate, name_of, capacities, weights}
use Rattle.profile_runner.specs.Transition.{Transition}
use Rattle.block_splitter.specs.declared.piece.Piece.{Piece}
use Rattle.energy_model.specs.Energy.{Scene, Taken, nothing_taken, steps_energy, side_energy, energy}
use Rattle.energy_model.specs.Together.{taken}
use Rattle.placement_candidates.specs.Selected.{selected}
use Rattle.placement_candidates.specs.Overlaid.{static_candidates, overlay_candidates, has_on_side}
use Rattle.placement_candidates.specs.Whole.{taken_of}

-- the transitions of a run, and its weight
pub record WeightedRun : Type 0 where
  pub weight : ℕ
  pub transitions : List Transition

-- ---- energies

-- what is counted of each run, summed by weight
abbrev pub mixed_by : (List Transition → ℕ) → List WeightedRun → ℕ
mixed_by counted runs = sum_by (λ r. r.weight * counted r.transitions) runs

-- the energy of a choice; that of its side with the start stub; and that of the steps alone
abbrev pub mixed_energy : Scene → Taken → List WeightedRun → ℕ
mixed_energy w c runs = mixed_by (energy w c) runs

abbrev pub mixed_side_energy : Scene → Taken → List WeightedRun → ℕ
mixed_side_energy w c runs = mixed_by (side_energy w c) runs

abbrev pub mixed_steps : Scene → Taken → List WeightedRun → ℕ
mixed_steps w c runs = mixed_by (steps_energy w c) runs

-- ---- a side: with overlay, or without

-- what an item saves: the energy of the side with nothing taken, less that with this item alone
abbrev pub saved_alone : Bool → Scene → List WeightedRun → VarName → ℤ
saved_alone on w runs name =
    pos (mixed_side_energy w (taken on []) runs) -ℤ pos (mixed_side_energy w (taken on (name ∷ [])) runs)

abbrev pub mixed_var : Bool → Scene → Layout → List WeightedRun → Candidate → PlainFullVar
mixed_var on w l runs candidate =
    record { name = name_of candidate; gain = saved_alone on w runs (name_of candidate); weights = weights on l candidate }

-- what the side costs with nothing taken, beyond the steps at home
abbrev pub side_cost : Bool → Scene → List WeightedRun → ℕ
side_cost on w runs = mixed_side_energy w (taken on []) runs - mixed_steps w nothing_taken runs

abbrev pub mixed_side : Bool → Scene → Layout → List Candidate → List WeightedRun → PlainFullSide
mixed_side on w l candidates runs =
    record {
      fixed = side_cost on w runs;
      rows = capacities on l;
      vars = map (mixed_var on w l runs) candidates;
    }

-- ---- the programme

abbrev pub mixed_on : Scene → Layout → List ℕ → List Piece → List WeightedRun → Option PlainFullSide
mixed_on w l objects pieces runs =
    if has_on_side w l objects pieces
    then Some (mixed_side true w l (static_candidates w pieces ++ overlay_candidates w objects pieces) runs)
    else None

abbrev pub mixed_full : Scene → Layout → List ℕ → List Piece → List WeightedRun → PlainFull
mixed_full w l objects pieces runs =
    record {
      base = mixed_steps w nothing_taken runs;
      off = mixed_side false w l (static_candidates w pieces) runs;
      on = mixed_on w l objects pieces runs;
    }

-- the same with what saves something alone
abbrev pub mixed_stated : Scene → Layout → List ℕ → List Piece → List WeightedRun → PlainProgramme
mixed_stated w l objects pieces runs = selected (mixed_full w l objects pieces runs)

-- the energy of each feasible choice of either side is that of the runs with what it takes
abbrev pub EnergiesAreMixed : Scene → List WeightedRun → PlainProgramme → Type 0
EnergiesAreMixed w runs p =
    (choice : PlainChoice) → IsFeasible p choice → programme_energy p choice ≡ pos (mixed_energy w (taken_of p choice) runs)
