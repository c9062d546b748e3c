-- What is claimed of runs of one program that are mixed.
use Rattle.std.specs.Prelude.{◌≡◌, ℕ, ◌≤◌, List, [], ◌∷◌, map, length}
use Rattle.std.specs.List.{All}
use Rattle.elf_reader.specs.declared.view.ElfView.{ElfView}
use Rattle.board_config.specs.declared.board.Board.{Board}
use Rattle.object_graph.specs.declared.parts.Graph.{Graph}
use Rattle.code_blocks.specs.declared.parts.Code.{Code}
use Rattle.region_former.specs.declared.table.RegionTable.{RegionTable}
use Rattle.block_splitter.specs.declared.piece.Piece.{Piece}
use Rattle.placement_programme.specs.Plain.{PlainFull}
use Rattle.placement_programme.specs.Rows.{Layout}
use Rattle.profile_runner.specs.Transition.{Transition}
use Rattle.profile_runner.specs.declared.counts.Profile.{Profile}
use Rattle.energy_model.specs.Energy.{Scene}
use Rattle.energy_model.specs.Scenes.{scene_of, AreOfSameFile}
use Rattle.placement_candidates.specs.Stated.{AreSomePieces}
use Rattle.placement_candidates.specs.Overlaid.{AreOverlaidObjects, overlay_layout, whole_full}
use Rattle.placement_candidates.specs.Whole.{whole_stated}
use Rattle.placement_candidates.specs.Parts.{PlainPart, IsMix}
use Rattle.placement_candidates.specs.Mixed.{WeightedRun, mixed_full, mixed_stated, EnergiesAreMixed}

-- each run is one of the program of a file, for a board, by some profile of it
abbrev pub IsOneOf : ElfView → Board → Graph → Code → RegionTable → WeightedRun → Type 0
IsOneOf view board g c t r = (q : Profile) × AreOfSameFile view board g c t q r.transitions

-- what a run states, with its weight
abbrev pub part_of_run : Scene → Layout → List ℕ → List Piece → WeightedRun → PlainPart
part_of_run w l objects pieces r = record { weight = r.weight; full = whole_full w l objects pieces r.transitions }

-- the mix of what the runs state is what they state together
abbrev pub MixIsOfTheRuns : Type 0
MixIsOfTheRuns =
    (view : ElfView) (board : Board) (g : Graph) (c : Code) (t : RegionTable) (objects : List ℕ) (pieces : List Piece) (runs : List WeightedRun) (mixed : PlainFull)
    → All (IsOneOf view board g c t) runs → 1 ≤ length runs
    → IsMix (map (part_of_run (scene_of g c t board) (overlay_layout g c t board) objects pieces) runs) mixed
    → mixed ≡ mixed_full (scene_of g c t board) (overlay_layout g c t board) objects pieces runs

-- the energy of each feasible choice is that of the runs
abbrev pub MixedEnergyIsOfTheRuns : Type 0
MixedEnergyIsOfTheRuns =
    (view : ElfView) (board : Board) (g : Graph) (c : Code) (t : RegionTable) (objects : List ℕ) (pieces : List Piece) (runs : List WeightedRun)
    → All (IsOneOf view board g c t) runs → AreSomePieces c g pieces → AreOverlaidObjects c g t objects
    → EnergiesAreMixed (scene_of g c t board) runs (mixed_stated (scene_of g c t board) (overlay_layout g c t board) objects pieces runs)

-- one run of weight 1 states what it states alone
abbrev pub one_run : List Transition → List WeightedRun
one_run transitions = record { weight = 1; transitions = transitions } ∷ []

abbrev pub OneRunIsAlone : Type 0
OneRunIsAlone =
    (view : ElfView) (board : Board) (g : Graph) (c : Code) (t : RegionTable) (objects : List ℕ) (pieces : List Piece) (transitions : List Transition)
    → IsOneOf view board g c t (record { weight = 1; transitions = transitions })
    → mixed_stated (scene_of g c t board) (overlay_layout g c t board) objects pieces (one_run transitions)
    ≡ whole_stated (scene_of g c t board) (overlay_layout g c t board) objects pieces transitions
