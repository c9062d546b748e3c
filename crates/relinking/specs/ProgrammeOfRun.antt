-- The programme of a placement that the run of a program states, by a table of regions.
use Rattle.std.specs.Prelude.{◌≡◌, ℕ, pos, List}
use Rattle.elf_reader.specs.File.{PlainView, plain_view}
use Rattle.elf_reader.specs.declared.view.ElfView.{ElfView}
use Rattle.board_config.specs.declared.board.Board.{Board}
use Rattle.object_graph.specs.declared.parts.Graph.{Graph}
use Rattle.code_blocks.specs.declared.parts.Code.{Code}
use Rattle.block_splitter.specs.declared.piece.Piece.{Piece}
use Rattle.object_machine.specs.Program.{program_of}
use Rattle.object_machine.specs.State.{SourceState}
use Rattle.object_machine.specs.Start.{start_of}
use Rattle.region_former.specs.declared.table.RegionTable.{RegionTable}
use Rattle.placement_programme.specs.Plain.{PlainFull, PlainProgramme, PlainChoice}
use Rattle.placement_programme.specs.Programme.{IsFeasible, energy as programme_energy}
use Rattle.profile_runner.specs.Transition.{Transition}
use Rattle.profile_runner.specs.Transitions.{Transitions}
use Rattle.profile_runner.specs.declared.counts.Profile.{Profile}
use Rattle.energy_model.specs.Energy.{Scene, energy}
use Rattle.energy_model.specs.Scenes.{scene_of, AreOfSameFile}
use Rattle.placement_candidates.specs.Overlaid.{AreOverlaidObjects, overlay_layout, IsWholeFull}
use Rattle.placement_candidates.specs.Whole.{whole_stated, taken_of}
use Rattle.printed_lines.specs.Endings.{IsAddressFault}

-- the energy of each feasible choice of either side is that of the transitions with what it takes
abbrev pub EnergiesAreOf : Scene → List Transition → PlainProgramme → Type 0
EnergiesAreOf w transitions p =
    (choice : PlainChoice) → IsFeasible p choice → programme_energy p choice ≡ pos (energy w (taken_of p choice) transitions)

-- The program, started on the input, takes the board's steps, or fewer where it ends. These are its transitions, which
-- meet no address fault, and they state this programme for the objects that may move, of which these may be overlaid, and
-- for these pieces of code.
pub record StatesProgramme (v : PlainView) (board : Board) (g : Graph) (c : Code) (t : RegionTable) (pieces : List Piece) (input : List ℕ) (p : PlainProgramme) : Type 0 where
  pub transitions : List Transition
  pub last : SourceState
  pub run : Transitions (program_of v board g) board.steps (start_of v (program_of v board g) g input) transitions last
  pub no_address_fault : IsAddressFault last.outcome → ⊥
  pub overlaid : List ℕ
  pub are_overlaid : AreOverlaidObjects c g t overlaid
  pub programme_is : p ≡ whole_stated (scene_of g c t board) (overlay_layout g c t board) overlaid pieces transitions
  pub energies : EnergiesAreOf (scene_of g c t board) transitions p

-- the run of a file states a programme, and a profile tells of the transitions by which it does, and how it ended
pub record CountsProgramme (view : ElfView) (board : Board) (g : Graph) (c : Code) (t : RegionTable) (pieces : List Piece) (input : List ℕ) (p : PlainProgramme) (q : Profile) : Type 0 where
  pub states : StatesProgramme (plain_view view) board g c t pieces input p
  pub same : AreOfSameFile view board g c t q states.transitions
  pub outcome : q.outcome ≡ states.last.outcome

-- the program, started on the input, takes the board's steps, or fewer where it ends; these are its transitions, which meet
-- no address fault
pub record RunsOn (v : PlainView) (board : Board) (g : Graph) (input : List ℕ) (transitions : List Transition) : Type 0 where
  pub last : SourceState
  pub run : Transitions (program_of v board g) board.steps (start_of v (program_of v board g) g input) transitions last
  pub no_address_fault : IsAddressFault last.outcome → ⊥

-- the transitions of such a run, of which a profile tells, state all this, also what saves nothing
pub record StatesFull (view : ElfView) (board : Board) (g : Graph) (c : Code) (t : RegionTable) (pieces : List Piece) (objects : List ℕ) (input : List ℕ) (f : PlainFull) (q : Profile) : Type 0 where
  pub transitions : List Transition
  pub runs : RunsOn (plain_view view) board g input transitions
  pub same : AreOfSameFile view board g c t q transitions
  pub outcome : q.outcome ≡ runs.last.outcome
  pub full_is : IsWholeFull (scene_of g c t board) (overlay_layout g c t board) objects pieces transitions f
