-- The programme of both sides that a run states, and what is claimed of its choices.
use Rattle.std.specs.Prelude.{◌≡◌, ℕ, pos, true, List, [], ◌∷◌, map, Option, Some, None}
use Rattle.elf_reader.specs.declared.view.ElfView.{ElfView}
use Rattle.board_config.specs.declared.board.Board.{Board}
use Rattle.object_graph.specs.declared.parts.Graph.{Graph}
use Rattle.code_blocks.specs.declared.parts.Code.{Code}
use Rattle.region_former.specs.declared.table.RegionTable.{RegionTable}
use Rattle.profile_runner.specs.Transition.{Transition}
use Rattle.profile_runner.specs.declared.counts.Profile.{Profile}
use Rattle.placement_programme.specs.declared.variables.VarName.{VarName}
use Rattle.placement_programme.specs.Plain.{PlainSide, PlainProgramme, PlainChoice}
use Rattle.placement_programme.specs.Programme.{side_for, IsFeasible, energy as programme_energy}
use Rattle.placement_programme.specs.Rows.{Layout}
use Rattle.block_splitter.specs.declared.piece.Piece.{Piece}
use Rattle.energy_model.specs.Energy.{Scene, Taken, side_energy, energy}
use Rattle.energy_model.specs.Scenes.{scene_of, AreOfSameFile}
use Rattle.energy_model.specs.Together.{taken, IsApartFromAll}
use Rattle.placement_candidates.specs.Stated.{AreSomePieces}
use Rattle.placement_candidates.specs.Selected.{selected}
use Rattle.placement_candidates.specs.Adding.{AddsUp, kept_name}
use Rattle.placement_candidates.specs.Overlaid.{AreOverlaidObjects, overlay_gain, overlay_layout, whole_full}

-- ---- gains add up

-- of no two of these items is there anything in common
abbrev pub AreApartAll : List VarName → Type 0
AreApartAll [] = Unit {0}
AreApartAll (name ∷ names) = IsApartFromAll name names × AreApartAll names

-- with overlay
abbrev pub OverlayAddsUp : Type 0
OverlayAddsUp = AddsUp AreApartAll (taken true) (λ w transitions. side_energy w (taken true []) transitions) overlay_gain

-- ---- choices

abbrev pub whole_stated : Scene → Layout → List ℕ → List Piece → List Transition → PlainProgramme
whole_stated w l objects pieces transitions = selected (whole_full w l objects pieces transitions)

-- what a choice takes of its side
abbrev pub names_of : Option PlainSide → List ℕ → List VarName
names_of None take = []
names_of (Some side) take = map (kept_name side.vars) take

abbrev pub taken_of : PlainProgramme → PlainChoice → Taken
taken_of p c = taken c.on (names_of (side_for p c.on) c.take)

-- the energy of each feasible choice of both sides is that of the run with what it takes
abbrev pub WholeEnergyIsOfTheRun : Type 0
WholeEnergyIsOfTheRun =
    (view : ElfView) (board : Board) (g : Graph) (c : Code) (t : RegionTable) (q : Profile) (objects : List ℕ) (pieces : List Piece) (transitions : List Transition) (choice : PlainChoice)
    → AreOfSameFile view board g c t q transitions → AreSomePieces c g pieces → AreOverlaidObjects c g t objects
    → IsFeasible (whole_stated (scene_of g c t board) (overlay_layout g c t board) objects pieces transitions) choice
    → programme_energy (whole_stated (scene_of g c t board) (overlay_layout g c t board) objects pieces transitions) choice
    ≡ pos (energy (scene_of g c t board) (taken_of (whole_stated (scene_of g c t board) (overlay_layout g c t board) objects pieces transitions) choice) transitions)
