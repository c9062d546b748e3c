-- What static items save together is what each saves alone.
use Rattle.std.specs.Prelude.{◌≡◌, ℕ, ◌+◌, ℤ, pos, ◌+ℤ◌, ◌-ℤ◌, ◌≤ℤ◌, false, List, [], ◌∷◌, map, slice_index_or}
use Rattle.elf_reader.specs.declared.view.ElfView.{ElfView}
use Rattle.board_config.specs.declared.board.Board.{Board}
use Rattle.object_graph.specs.declared.parts.Graph.{Graph}
use Rattle.code_blocks.specs.declared.parts.Code.{Code}
use Rattle.region_former.specs.declared.table.RegionTable.{RegionTable}
use Rattle.block_splitter.specs.declared.piece.Piece.{Piece}
use Rattle.placement_programme.specs.declared.variables.VarName.TheVariants.{StaticData}
use Rattle.placement_programme.specs.declared.variables.VarName.{VarName}
use Rattle.placement_programme.specs.Plain.{PlainVar, PlainProgramme, PlainChoice}
use Rattle.placement_programme.specs.Programme.{IsFeasible, gain, energy as programme_energy}
use Rattle.profile_runner.specs.Transition.{Transition}
use Rattle.profile_runner.specs.declared.counts.Profile.{Profile}
use Rattle.energy_model.specs.Energy.{Scene, Taken, steps_energy, stub_energy, side_energy, energy, nothing_taken}
use Rattle.energy_model.specs.Scenes.{scene_of, layout_of, AreOfSameFile}
use Rattle.energy_model.specs.Priced.{AreApart}
use Rattle.placement_candidates.specs.Stated.{gain_alone, AreSomePieces}
use Rattle.placement_candidates.specs.Selected.{stated}

-- some items are taken, without overlay
abbrev pub items_taken : List VarName → Taken
items_taken names = record { on = false; names = names }

-- what each saves, summed
abbrev pub gains_by : (VarName → ℤ) → List VarName → ℤ
gains_by saved [] = pos 0
gains_by saved (name ∷ names) = saved name +ℤ gains_by saved names

-- for such items the energy is that of none, less what each saves alone
abbrev pub AddsUp : (List VarName → Type 0) → (List VarName → Taken) → (Scene → List Transition → ℕ) → (Scene → List Transition → VarName → ℤ) → Type 0
AddsUp Such takes none saved =
    (view : ElfView) (board : Board) (g : Graph) (c : Code) (t : RegionTable) (q : Profile) (transitions : List Transition) (names : List VarName)
    → AreOfSameFile view board g c t q transitions → Such names
    → pos (side_energy (scene_of g c t board) (takes names) transitions)
    ≡ pos (none (scene_of g c t board) transitions) -ℤ gains_by (saved (scene_of g c t board) transitions) names

-- different objects, and pieces of which no two share a block
abbrev pub EnergyAddsUp : Type 0
EnergyAddsUp =
    AddsUp AreApart items_taken (λ w transitions. steps_energy w nothing_taken transitions + stub_energy w nothing_taken) gain_alone

-- ---- choices of the programme that a run states

abbrev pub no_kept : PlainVar
no_kept = record { name = StaticData 0; gain = 0; weights = [] }

abbrev pub kept_name : List PlainVar → ℕ → VarName
kept_name vs k = (slice_index_or vs k no_kept).name

-- what a choice takes
abbrev pub taken_by : PlainProgramme → PlainChoice → Taken
taken_by p c = record { on = c.on; names = map (kept_name p.off.vars) c.take }

-- a statement of each feasible choice of each programme that a run states
abbrev pub OfFeasibleChoices : (Scene → List Transition → PlainProgramme → PlainChoice → Type 0) → Type 0
OfFeasibleChoices Says =
    (view : ElfView) (board : Board) (g : Graph) (c : Code) (t : RegionTable) (q : Profile) (pieces : List Piece) (transitions : List Transition) (choice : PlainChoice)
    → AreOfSameFile view board g c t q transitions → AreSomePieces c g pieces
    → IsFeasible (stated (scene_of g c t board) (layout_of g c t board) pieces transitions) choice
    → Says (scene_of g c t board) transitions (stated (scene_of g c t board) (layout_of g c t board) pieces transitions) choice

-- the energy of a feasible choice is that of the run with what it takes
abbrev pub EnergyIsOfTheRun : Type 0
EnergyIsOfTheRun =
    OfFeasibleChoices (λ w transitions programme choice. programme_energy programme choice ≡ pos (energy w (taken_by programme choice) transitions))

-- so a feasible choice saves no more than the base
abbrev pub GainsAreWithinTheBase : Type 0
GainsAreWithinTheBase =
    OfFeasibleChoices (λ w transitions programme choice. gain programme choice ≤ℤ pos (steps_energy w nothing_taken transitions))
