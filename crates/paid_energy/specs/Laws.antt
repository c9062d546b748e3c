-- The energy that a result pays is the modelled one.
use Rattle.std.specs.Prelude.{◌≡◌, ℕ, ◌+◌, ◌*◌, Bool, true, false, if◌then◌else◌, List, length, None}
use Rattle.elf_reader.specs.File.{view_in}
use Rattle.elf_reader.specs.Loadable.{AreBytes}
use Rattle.board_config.specs.Board.{IsLawful}
use Rattle.board_config.specs.declared.board.Board.{Board}
use Rattle.flat_machine.specs.State.{State}
use Rattle.flat_machine.specs.declared.events.FlatOutcome.TheVariants as flat
use Rattle.object_graph.specs.Graphs.{IsGraph}
use Rattle.object_graph.specs.declared.parts.Graph.{Graph}
use Rattle.code_blocks.specs.Blocks.{IsCode}
use Rattle.code_blocks.specs.declared.parts.Code.{Code}
use Rattle.region_former.specs.declared.table.RegionTable.{RegionTable}
use Rattle.object_machine.specs.declared.events.Outcome.TheVariants.{Exited}
use Rattle.object_machine.specs.State.{SourceState}
use Rattle.object_machine.specs.Paired.{at_start, PairedSteps}
use Rattle.profile_runner.specs.Transition.{Transition}
use Rattle.profile_runner.specs.Transitions.{Transitions}
use Rattle.placement_programme.specs.Plain.{PlainProgramme, PlainChoice}
use Rattle.placement_programme.specs.Programme.{IsFeasible}
use Rattle.energy_model.specs.Energy.{is_nothing, energy}
use Rattle.energy_model.specs.Scenes.{scene_of}
use Rattle.placement_candidates.specs.Whole.{taken_of as names_taken}
use Rattle.result_laws.specs.HomeLaws.{program_in, source_start, file_start}
use Rattle.result_laws.specs.ResultLaws.{most_steps}
use Rattle.relink_core.specs.Faults.{analyse_fault}
use Rattle.relink_core.specs.Placed.{taken_of, Realises}
use Rattle.paid_energy.specs.FlatRuns.{PaysRun}
use Rattle.paid_energy.specs.Inward.{inward_calls}

-- how many steps are enough for the result of a program that takes `n`: where nothing is moved two for each, since a call of
-- two words is one step
abbrev pub enough_steps : Board → Bool → ℕ → ℕ
enough_steps board nothing n = if nothing then 2 * n else (n + 1) * most_steps board

-- where nothing is moved, paired runs are spoken of
abbrev pub IsPairedWhereNothing : Bool → List ℕ → Board → Graph → List ℕ → ℕ → SourceState → Type 0
IsPairedWhereNothing true file board g input n s = PairedSteps (program_in file board g) n (source_start file board g input) at_start s
IsPairedWhereNothing false file board g input n s = Unit {0}

-- no check of a file fails on its board, and these are its graph and its code
pub record IsPassed (file : List ℕ) (board : Board) (g : Graph) (c : Code) : Type 0 where
  pub bytes : AreBytes file
  pub lawful : IsLawful board
  pub no_fault : analyse_fault file board ≡ None
  pub graph : IsGraph (view_in file) board g
  pub code : IsCode (view_in file) c

-- the machine exits with this code within so many steps, and where no call was inward it pays what is modelled
pub record PaysEnergy (board : Board) (most : ℕ) (start : State) (code inward modelled : ℕ) : Type 0 where
  pub steps : ℕ
  pub paid : ℕ
  pub run : PaysRun board most start (flat.Exited code) steps paid
  pub equal : inward ≡ 0 → paid ≡ modelled

-- Where the program exits, each file that realises a feasible choice exits with the same code within so many steps; and where
-- the program makes no inward call, that file pays the energy of the run with what is taken
abbrev pub ResultsPay : Type 0
ResultsPay =
    (file out : List ℕ) (board : Board) (g : Graph) (c : Code) (t : RegionTable) (p : PlainProgramme) (choice : PlainChoice)
    (input : List ℕ) (n : ℕ) (transitions : List Transition) (s : SourceState) (code : ℕ)
    → IsPassed file board g c → IsFeasible p choice → AreBytes input
    → Realises file board g c t (taken_of p choice) out
    → Transitions (program_in file board g) n (source_start file board g input) transitions s → s.outcome ≡ Exited code
    → IsPairedWhereNothing (is_nothing (names_taken p choice)) file board g input n s
    → PaysEnergy board (enough_steps board (is_nothing (names_taken p choice)) (length transitions)) (file_start out board input) code
    (inward_calls (scene_of g c t board) c (names_taken p choice) transitions)
    (energy (scene_of g c t board) (names_taken p choice) transitions)
