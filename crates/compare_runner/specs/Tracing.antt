-- A program and its result, step by step on both machines.
use Rattle.std.specs.Prelude.{◌≡◌, ℕ, suc, ◌<◌, ◌≤◌, Bool, true, false, List, [], ◌∷◌, length, Option, Some, None}
use Rattle.elf_reader.specs.File.{PlainView}
use Rattle.board_config.specs.declared.board.Board.{Board}
use Rattle.rv32im.specs.declared.instructions.Instr.{Instr}
use Rattle.flat_machine.specs.State.{State}
use Rattle.flat_machine.specs.Step as flat_step
use Rattle.flat_machine.specs.Runs as flat_runs
use Rattle.flat_machine.specs.declared.events.FlatAccess.{FlatAccess}
use Rattle.flat_machine.specs.declared.events.FlatEvent.{FlatEvent}
use Rattle.object_graph.specs.declared.parts.Graph.{Graph}
use Rattle.code_blocks.specs.Numbers.{starts_of}
use Rattle.code_blocks.specs.declared.parts.Code.{Code}
use Rattle.region_former.specs.declared.table.RegionTable.{RegionTable}
use Rattle.object_machine.specs.declared.events.Access.{Access}
use Rattle.object_machine.specs.declared.events.Outcome.{Outcome}
use Rattle.object_machine.specs.declared.events.Outcome.TheVariants.{GoesOn}
use Rattle.object_machine.specs.Program.{Program, program_of}
use Rattle.object_machine.specs.State.{SourceState}
use Rattle.object_machine.specs.Step.{Reads, next_state, access_of}
use Rattle.object_machine.specs.Runs.{HasEnded}
use Rattle.result_laws.specs.ResultLaws.{most_steps}
use Rattle.relink_core.specs.declared.unit_forms.UnitAt.{UnitAt}
use Rattle.compare_runner.specs.Comings.{StopsFirst, StopsNever, first_access, IsAtForm, region_behind}
use Rattle.compare_runner.specs.declared.marks.TracedAccess.{TracedAccess}
use Rattle.compare_runner.specs.declared.marks.TracedStep.{TracedStep}

-- a program with the starts and the regions of its blocks, and the forms of its units in a result
pub record TracedProgram : Type 0 where
  pub program : Program
  pub starts : List ℕ
  pub regions : List ℕ
  pub units : List UnitAt
  pub board : Board

-- that of a view on a board
abbrev pub traced_of : PlainView → Board → Graph → Code → RegionTable → List UnitAt → TracedProgram
traced_of v board g c t units =
    record {
      program = program_of v board g;
      starts = starts_of c;
      regions = t.of_block.items;
      units = units;
      board = board;
    }

-- the region that is current once the program has come to a state
abbrev pub region_in : TracedProgram → ℕ → SourceState → ℕ
region_in w from s = region_behind w.starts w.regions from s.pc

-- ---- a step

-- the flat machine comes along with a program that comes to a state: to a form of its next unit, or, where it ends, to its
-- own end. `from` was current before
abbrev pub ComesBy : Outcome → TracedProgram → ℕ → SourceState → List FlatEvent → State → Type 0
ComesBy GoesOn w from s es t = IsAtForm w.units w.board from (region_in w from s) s.pc es t
ComesBy outcome w from s es t = flat_runs.HasEnded t.outcome

-- in one step or more
abbrev pub ComesAlong : TracedProgram → ℕ → SourceState → List FlatEvent → State → Type 0
ComesAlong w from s es t = (0 < length es) × ComesBy s.outcome w from s es t

-- what is told of the access of a unit, whose flat step makes this one
abbrev pub told_access : Option Access → Option FlatAccess → Option TracedAccess
told_access (Some a) (Some made) =
    Some (record { object = a.object; offset = a.offset; write = a.write; at = made.at })
told_access other made = None

-- it can be told: where there is one, the flat step makes one, too
abbrev pub CanTell : Option Access → Option FlatAccess → Type 0
CanTell (Some a) None = ⊥
CanTell access made = Unit {0}

-- the step of a unit, while a region is current, from where the flat machine is at a form of it to where it comes along
pub record IsTracedStep (w : TracedProgram) (region : ℕ) (s : SourceState) (read : Option Instr) (t : State) (x : TracedStep) (t' : State) : Type 0 where
  pub events : List FlatEvent
  pub comes : StopsFirst (ComesAlong w region (next_state w.program s read)) t events t'
  pub few : length events ≤ most_steps w.board
  pub can : CanTell (access_of w.program s (next_state w.program s read).outcome read) (first_access events)
  pub is : x ≡
      record {
        home = s.pc;
        region = region;
        at = t.hart.pc;
        steps = length events;
        access = told_access (access_of w.program s (next_state w.program s read).outcome read) (first_access events);
      }

-- it can't be traced: the unit accesses an object, and the flat step accesses nothing; or the flat machine doesn't come along
-- within as many steps as are enough for any result
pub data IsLostStep (w : TracedProgram) (region : ℕ) (s : SourceState) (read : Option Instr) (t : State) : Type 0 where
  makes_no_access : (access : Access) (e : FlatEvent) (m : State)
      → access_of w.program s (next_state w.program s read).outcome read ≡ Some access
      → flat_step.Step t e m → e.access ≡ None → IsLostStep w region s read t
  comes_nowhere : StopsNever (ComesAlong w region (next_state w.program s read)) (most_steps w.board) t
      → IsLostStep w region s read t

-- ---- runs

-- the traced steps of a program from a state on, at most `n`: all until it ends, or those before the first that can't be
-- traced, where the trace is lost
pub data Traces (w : TracedProgram) : ℕ → ℕ → SourceState → State → List TracedStep → Bool → Type 0 where
  Done : (region : ℕ) (s : SourceState) (t : State) → Traces w 0 region s t [] false
  Ended : (n region : ℕ) (s : SourceState) (t : State) → HasEnded s.outcome → Traces w n region s t [] false
  Lost : (n region : ℕ) (s : SourceState) (t : State) (read : Option Instr) → s.outcome ≡ GoesOn
      → Reads (w.program.word s.pc) read → IsLostStep w region s read t → Traces w (suc n) region s t [] true
  Goes : (n region : ℕ) (s : SourceState) (t t' : State) (read : Option Instr) (x : TracedStep) (xs : List TracedStep) (lost : Bool)
      → s.outcome ≡ GoesOn → Reads (w.program.word s.pc) read → IsTracedStep w region s read t x t'
      → Traces w n (region_in w region (next_state w.program s read)) (next_state w.program s read) t' xs lost
      → Traces w (suc n) region s t (x ∷ xs) lost

-- Both machines from their starts. After `start` steps the flat machine is at a form of the program's first unit, before
-- which no region is current; from there steps are traced
pub record IsTrace (w : TracedProgram) (n : ℕ) (s : SourceState) (t : State) (start : ℕ) (steps : List TracedStep) (lost : Bool) : Type 0 where
  pub events : List FlatEvent
  pub first : State
  pub comes : StopsFirst (IsAtForm w.units w.board 0 (region_in w 0 s) s.pc) t events first
  pub start_is : start ≡ length events
  pub traced : Traces w n (region_in w 0 s) s first steps lost
