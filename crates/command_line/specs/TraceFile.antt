-- What `trace` tells of a file, a board, an input, a certificate and a count: a run of the file's program beside one of the file
-- that realises the certificate's choice. Where there is none it tells what `paid` tells.
use Rattle.std.specs.Prelude.{◌≡◌, ◌⊎◌, ℕ, ◌<◌, min, Bool, true, false, List, [], ◌∷◌, ◌++◌, codes, length, None, All}
use Rattle.std.specs.Fmt.{decimal}
use Rattle.elf_reader.specs.File.{PlainView, plain_view, view_in}
use Rattle.elf_reader.specs.Faults.{first_fault}
use Rattle.board_config.specs.Board.{mapped_ranges}
use Rattle.board_config.specs.declared.board.Board.{Board}
use Rattle.flat_machine.specs.Start as flat_start
use Rattle.object_machine.specs.Program.{program_of}
use Rattle.object_machine.specs.Start.{start_of}
use Rattle.placement_programme.specs.Plain.{PlainProgramme, PlainChoice}
use Rattle.relink_core.specs.Placed.{Taken, taken_of}
use Rattle.relink_core.specs.UnitMaps.{MakesWithUnits}
use Rattle.relink_core.specs.declared.unit_forms.UnitAt.{UnitAt}
use Rattle.result_laws.specs.ResultLaws.{most_steps}
use Rattle.compare_runner.specs.Laws.{IsPairedRun}
use Rattle.compare_runner.specs.Comings.{IsAtForm}
use Rattle.compare_runner.specs.Seeking.{StartsWithin}
use Rattle.compare_runner.specs.Tracing.{traced_of, region_in, IsTrace}
use Rattle.compare_runner.specs.Marks.{trace_text}
use Rattle.compare_runner.specs.TraceLaws.{TracesFiles, TakesFew, AreAtPlaces, made_places}
use Rattle.compare_runner.specs.declared.marks.TracedStep.{TracedStep}
use Rattle.command_line.specs.Analysed.{Accepts}
use Rattle.command_line.specs.declared.opened.Opened.{Opened}
use Rattle.command_line.specs.PaidFile.{MakesOf}

-- ---- the line

-- `steps N`, and `lost N` where the trace is lost behind so many steps
abbrev pub traced_line : Bool → ℕ → List ℕ
traced_line false n = codes "steps " ++ (decimal n ++ 10 ∷ [])
traced_line true n = codes "lost " ++ (decimal n ++ 10 ∷ [])

-- ---- the trace

-- something is taken, or overlaid
abbrev pub MovesSome : Taken → Type 0
MovesSome taken = (taken.on ≡ true) ⊎ (0 < length taken.items)

-- the units of the program stand so in the file that realises the choice
abbrev pub HasUnits : (file : List ℕ) (board : Board) (input cert result : List ℕ) → MakesOf file board input cert result → List UnitAt → Type 0
HasUnits file board input cert result m units =
    MakesWithUnits file board m.states.found.graph m.states.found.code m.states.found.regions (taken_of m.programme m.choice) result units

-- The program and the file that realises the choice run side by side, for as many steps of the program as the count and the board
-- allow, or fewer where it ends; these are the steps that are traced, all of them, or where the trace is lost those before the
-- first that can't be. Each takes few in the other file. Where something is moved, and else where the run is paired, the trace
-- isn't lost, and each access is at the place that its object has in the region of the step
pub record TracesMade (file : List ℕ) (board : Board) (input cert result : List ℕ) (m : MakesOf file board input cert result) (units : List UnitAt) (made : HasUnits file board input cert result m units) (count start : ℕ) (steps : List TracedStep) (lost : Bool) : Type 0 where
  pub trace : TracesFiles file result board m.states.found.graph m.states.found.code m.states.found.regions units input (min count board.steps) start steps lost
  pub whole : lost ≡ false → length steps ≡ min count (length m.states.states.transitions)
  pub cut : lost ≡ true → length steps < min count (length m.states.states.transitions)
  pub few : All (TakesFew board) steps
  pub kept : MovesSome (taken_of m.programme m.choice) ⊎ IsPairedRun file board m.states.found.graph input (min count board.steps)
      → (lost ≡ false) × AreAtPlaces (made_places file board m.states.found.graph m.states.found.code m.states.found.regions (taken_of m.programme m.choice) result units made) steps

-- ---- the command

-- the file is read again, the text is the trace of both, and the line tells how many steps are traced
pub record TracesTo (file board_text input cert : List ℕ) (count : ℕ) (text line : List ℕ) : Type 0 where
  pub board : Board
  pub accepts : Accepts board_text file board
  pub result : List ℕ
  pub makes : MakesOf file board input cert result
  pub sound : first_fault result ≡ None
  pub units : List UnitAt
  pub made : HasUnits file board input cert result makes units
  pub start : ℕ
  pub steps : List TracedStep
  pub lost : Bool
  pub traced : TracesMade file board input cert result makes units made count start steps lost
  pub text_is : text ≡ trace_text (view_in file) makes.states.found.graph.objects.items start steps
  pub line_is : line ≡ traced_line lost (length steps)

-- ---- parts of the command

-- the file of a view comes to a form of the first unit of an opened file's program
abbrev pub StartsIn : PlainView → PlainView → Opened → List UnitAt → List ℕ → Type 0
StartsIn v u o units input =
    let w = traced_of v o.board o.analysis.graph o.analysis.code o.analysis.regions units in
    let s = start_of v w.program o.analysis.graph input in
    StartsWithin (IsAtForm w.units w.board 0 (region_in w 0 s) s.pc) (most_steps o.board) (flat_start.start_of u.entry u.segments (mapped_ranges o.board) input)

-- the trace of both is this
abbrev pub TracesIn : PlainView → PlainView → Opened → List UnitAt → List ℕ → ℕ → ℕ → List TracedStep → Bool → Type 0
TracesIn v u o units input n start steps lost =
    IsTrace (traced_of v o.board o.analysis.graph o.analysis.code o.analysis.regions units) n (start_of v (program_of v o.board o.analysis.graph) o.analysis.graph input)
    (flat_start.start_of u.entry u.segments (mapped_ranges o.board) input) start steps lost

-- and the text and the line are of it
pub record TellsLines (o : Opened) (u : PlainView) (units : List UnitAt) (input : List ℕ) (count : ℕ) (text line : List ℕ) : Type 0 where
  pub start : ℕ
  pub steps : List TracedStep
  pub lost : Bool
  pub trace : TracesIn (plain_view o.analysis.view) u o units input (min count o.board.steps) start steps lost
  pub text_is : text ≡ trace_text (plain_view o.analysis.view) o.analysis.graph.objects.items start steps
  pub line_is : line ≡ traced_line lost (length steps)

-- a file realises the choice, with these units, and is read, and the text and the line are of its trace
pub record MakesTrace (file : List ℕ) (o : Opened) (p : PlainProgramme) (choice : PlainChoice) (input : List ℕ) (count : ℕ) (text line : List ℕ) : Type 0 where
  pub result : List ℕ
  pub units : List UnitAt
  pub makes : MakesWithUnits file o.board o.analysis.graph o.analysis.code o.analysis.regions (taken_of p choice) result units
  pub sound : first_fault result ≡ None
  pub start : ℕ
  pub steps : List TracedStep
  pub lost : Bool
  pub trace : TracesFiles file result o.board o.analysis.graph o.analysis.code o.analysis.regions units input (min count o.board.steps) start steps lost
  pub text_is : text ≡ trace_text (view_in file) o.analysis.graph.objects.items start steps
  pub line_is : line ≡ traced_line lost (length steps)
