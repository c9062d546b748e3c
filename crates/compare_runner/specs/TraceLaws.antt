-- What holds of all traces.
use Rattle.std.specs.Prelude.{◌≡◌, ℕ, ◌+◌, ◌<◌, ◌≤◌, Bool, true, false, List, [], length, Option, Some, None, All}
use Rattle.elf_reader.specs.File.{view_in}
use Rattle.elf_reader.specs.Loadable.{AreBytes}
use Rattle.board_config.specs.declared.board.Board.{Board}
use Rattle.flat_machine.specs.State.{State}
use Rattle.object_graph.specs.declared.parts.Graph.{Graph}
use Rattle.code_blocks.specs.Blocks.{IsCode}
use Rattle.code_blocks.specs.declared.parts.Code.{Code}
use Rattle.cell_values.specs.Objects.{object_of}
use Rattle.cell_values.specs.Stands.{Places}
use Rattle.object_machine.specs.State.{SourceState}
use Rattle.object_machine.specs.Runs.{Steps}
use Rattle.object_machine.specs.Paired.{at_start, PairedSteps}
use Rattle.region_former.specs.declared.table.RegionTable.{RegionTable}
use Rattle.profile_runner.specs.Transition.{Transition}
use Rattle.profile_runner.specs.Transitions.{Transitions}
use Rattle.result_laws.specs.HomeLaws.{IsAccepted, program_in, source_start, file_start}
use Rattle.result_laws.specs.ResultLaws.{most_steps}
use Rattle.result_laws.specs.Walks.{IsNoFault}
use Rattle.result_laws.specs.ChosenPlacement.{places_in}
use Rattle.relink_core.specs.Placed.{Taken}
use Rattle.relink_core.specs.Regions.{AreRegions}
use Rattle.relink_core.specs.UnitMaps.{MovesWithUnits, MakesWithUnits, hands_on, moves}
use Rattle.relink_core.specs.declared.unit_forms.UnitAt.{UnitAt}
use Rattle.compare_runner.specs.declared.marks.TracedAccess.{TracedAccess}
use Rattle.compare_runner.specs.declared.marks.TracedStep.{TracedStep}
use Rattle.compare_runner.specs.Comings.{IsAtForm}
use Rattle.compare_runner.specs.Seeking.{StartsWithin}
use Rattle.compare_runner.specs.Tracing.{TracedProgram, traced_of, region_in, IsTrace}

-- ---- a file and a result of it

abbrev pub traced_in : List ℕ → Board → Graph → Code → RegionTable → List UnitAt → TracedProgram
traced_in file board g c t units = traced_of (view_in file) board g c t units

-- the trace of both on an input, of at most `n` steps of the program
abbrev pub TracesFiles : (file out : List ℕ) (board : Board) (g : Graph) (c : Code) (t : RegionTable) (units : List UnitAt) (input : List ℕ) (n start : ℕ) → List TracedStep → Bool → Type 0
TracesFiles file out board g c t units input n start steps lost =
    IsTrace (traced_in file board g c t units) n (source_start file board g input) (file_start out board input) start steps lost

-- ---- any trace

-- there is one trace alone
pub record IsOneTrace (start other : ℕ) (steps others : List TracedStep) (lost gone : Bool) : Type 0 where
  pub same_start : start ≡ other
  pub same_steps : steps ≡ others
  pub same_lost : lost ≡ gone

abbrev pub OneTrace : Type 0
OneTrace =
    (w : TracedProgram) (n : ℕ) (s : SourceState) (t : State) (start other : ℕ) (steps others : List TracedStep) (lost gone : Bool)
    → IsTrace w n s t start steps lost → IsTrace w n s t other others gone
    → IsOneTrace start other steps others lost gone

-- one that isn't lost has a step for each of the program's, and any other has fewer
abbrev pub TracesAreWhole : Type 0
TracesAreWhole =
    (w : TracedProgram) (n : ℕ) (s last : SourceState) (t : State) (start : ℕ) (steps : List TracedStep) (transitions : List Transition)
    → Transitions w.program n s transitions last
    → (IsTrace w n s t start steps false → length steps ≡ length transitions)
    × (IsTrace w n s t start steps true → length steps < length transitions)

-- each of its steps takes few in the flat machine
abbrev pub TakesFew : Board → TracedStep → Type 0
TakesFew board x = (0 < x.steps) × (x.steps ≤ most_steps board)

abbrev pub TracedStepsAreFew : Type 0
TracedStepsAreFew =
    (w : TracedProgram) (n : ℕ) (s : SourceState) (t : State) (start : ℕ) (steps : List TracedStep) (lost : Bool)
    → IsTrace w n s t start steps lost → All (TakesFew w.board) steps

-- ---- accesses at places

-- each access is as far behind the place that its object has in the step's region as behind its home
abbrev pub IsAtPlace : Places → Option TracedAccess → Type 0
IsAtPlace places None = Unit {0}
IsAtPlace places (Some a) = a.at ≡ places a.object + a.offset

abbrev pub AreAtPlaces : (ℕ → Places) → List TracedStep → Type 0
AreAtPlaces places steps = All (λ x. IsAtPlace (places x.region) x.access) steps

-- the places in a result with its units: homes where nothing is moved
abbrev pub made_places : (file : List ℕ) (board : Board) (g : Graph) (c : Code) (t : RegionTable) (taken : Taken) (out : List ℕ) (units : List UnitAt) → MakesWithUnits file board g c t taken out units → ℕ → Places
made_places file board g c t taken out units (hands_on off none same forms) r = λ o. (object_of g o).home
made_places file board g c t taken out units (moves some made) r = places_in board g made.moved.pl r

-- ---- never lost

-- an accepted file with its code and its regions
pub record IsTraceable (file : List ℕ) (board : Board) (g : Graph) (c : Code) (t : RegionTable) : Type 0 where
  pub accepted : IsAccepted file board g
  pub code : IsCode (view_in file) c
  pub regions : AreRegions (view_in file) c board t

-- a run with a trace that isn't lost, and whose accesses are at their places
pub record IsTracedWhole (file out : List ℕ) (board : Board) (g : Graph) (c : Code) (t : RegionTable) (units : List UnitAt) (places : ℕ → Places) (input : List ℕ) (n : ℕ) : Type 0 where
  pub start : ℕ
  pub steps : List TracedStep
  pub trace : TracesFiles file out board g c t units input n start steps false
  pub few : start ≤ most_steps board
  pub at_places : AreAtPlaces places steps

-- it is so where something is taken or overlaid, beside each run that meets no address fault
abbrev pub MovedIsTraced : Type 0
MovedIsTraced =
    (file out : List ℕ) (board : Board) (g : Graph) (c : Code) (t : RegionTable) (taken : Taken) (units : List UnitAt)
    (made : MovesWithUnits file board g c t taken out units) (input : List ℕ) (n : ℕ) (s : SourceState)
    → IsTraceable file board g c t → AreBytes input
    → Steps (program_in file board g) n (source_start file board g input) s → IsNoFault s.outcome
    → IsTracedWhole file out board g c t units (places_in board g made.moved.pl) input n

-- and where nothing is, beside each paired run
abbrev pub homes_of : Graph → ℕ → Places
homes_of g r = λ o. (object_of g o).home

abbrev pub UnmovedIsTraced : Type 0
UnmovedIsTraced =
    (file : List ℕ) (board : Board) (g : Graph) (c : Code) (t : RegionTable) (taken : Taken) (units : List UnitAt)
    → MakesWithUnits file board g c t taken file units → taken.on ≡ false → taken.items ≡ []
    → (input : List ℕ) (n : ℕ) (s : SourceState) → IsTraceable file board g c t → AreBytes input
    → PairedSteps (program_in file board g) n (source_start file board g input) at_start s → IsNoFault s.outcome
    → IsTracedWhole file file board g c t units (homes_of g) input n

-- ---- the start

-- each result comes to a form of its program's first unit in few steps
abbrev pub ResultsStart : Type 0
ResultsStart =
    (file out : List ℕ) (board : Board) (g : Graph) (c : Code) (t : RegionTable) (taken : Taken) (units : List UnitAt)
    → MakesWithUnits file board g c t taken out units → (input : List ℕ) → IsTraceable file board g c t → AreBytes input
    → StartsWithin
    (IsAtForm units board 0 (region_in (traced_in file board g c t units) 0 (source_start file board g input)) (source_start file board g input).pc)
    (most_steps board) (file_start out board input)
