-- What a profile tells of a run, and what is known while it is made.
use Rattle.std.specs.Prelude.{◌≡◌, ℕ, ◌*◌, ◌≤◌, true, List, length, Option, Some, None, Result, Ok, Err}
use Rattle.std.specs.List.Sorted.{IsStrictlyIncreasing}
use Rattle.elf_reader.specs.File.{PlainView}
use Rattle.board_config.specs.declared.board.Board.{Board}
use Rattle.object_graph.specs.declared.parts.Graph.{Graph}
use Rattle.code_blocks.specs.Leaders.{is_leader}
use Rattle.code_blocks.specs.Early.{has}
use Rattle.code_blocks.specs.Blocks.{IsCode}
use Rattle.code_blocks.specs.declared.parts.Code.{Code}
use Rattle.object_machine.specs.declared.machine.Source.{Source}
use Rattle.object_machine.specs.declared.events.Outcome.{Outcome}
use Rattle.object_machine.specs.declared.events.Outcome.TheVariants.{GoesOn, Exited, Trapped, AddressFault}
use Rattle.object_machine.specs.declared.events.Event.{Event}
use Rattle.object_machine.specs.Step.{Step}
use Rattle.object_machine.specs.Program.{Program, program_of}
use Rattle.object_machine.specs.State.{SourceState}
use Rattle.object_machine.specs.Machine.{state_of, IsProgram}
use Rattle.profile_runner.specs.Transition.{Transition, is_going}
use Rattle.profile_runner.specs.Transitions.{Transitions}
use Rattle.profile_runner.specs.Counts.{IsProfile}
use Rattle.profile_runner.specs.Tallies.{IsBlockAt, IsNext}
use Rattle.profile_runner.specs.Tally.{IsTally, HasCounted}
use Rattle.profile_runner.specs.declared.counts.Profile.{Profile}
use Rattle.profile_runner.specs.declared.fault.ProfileFault.{ProfileFault}
use Rattle.profile_runner.specs.declared.fault.ProfileFault.TheVariants.{AddressFault as FaultAt, Memory}
use Rattle.profile_runner.specs.declared.tally.Tally.{Tally}

-- ---- a machine that runs the program of a file on a board, where a block of its code begins

pub record IsAtBlock (v : PlainView) (board : Board) (g : Graph) (c : Code) (m : Source) : Type 0 where
  pub program : IsProgram (program_of v board g) m
  pub code : IsCode v c
  pub going : (state_of (program_of v board g) m).outcome ≡ GoesOn
  pub begins : is_leader v (state_of (program_of v board g) m).pc ≡ true

-- the file and the board are some
abbrev pub HasStarted : Graph → Code → Source → Type 0
HasStarted g c m = (v : PlainView) × ((board : Board) × IsAtBlock v board g c m)

-- ---- what a profile of `n` steps from `s` to `t` tells

-- the address fault that a run met, if it ended so
abbrev pub fault_of : Outcome → Option ProfileFault
fault_of GoesOn = None
fault_of (Exited code) = None
fault_of (Trapped pc) = None
fault_of (AddressFault pc why) = Some (FaultAt pc why)

pub record Profiles (starts regions : List ℕ) (last size : ℕ) (p : Program) (n : ℕ) (s t : SourceState) (q : Profile) : Type 0 where
  pub no_fault : fault_of t.outcome ≡ None
  pub transitions : List Transition
  pub run : Transitions p n s transitions t
  pub profile : IsProfile starts regions last size transitions t.outcome q

pub record RunsIntoFault (p : Program) (n : ℕ) (s t : SourceState) (pc why : ℕ) : Type 0 where
  pub fault : fault_of t.outcome ≡ Some (FaultAt pc why)
  pub transitions : List Transition
  pub run : Transitions p n s transitions t

-- a profile, where the run meets no address fault; that fault, where it meets one; or no memory was left
abbrev pub ReportsOfRun : List ℕ → List ℕ → ℕ → ℕ → Program → ℕ → SourceState → SourceState → Result Profile ProfileFault → Type 0
ReportsOfRun starts regions last size p n s t (Ok q) = Profiles starts regions last size p n s t q
ReportsOfRun starts regions last size p n s t (Err (FaultAt pc why)) = RunsIntoFault p n s t pc why
ReportsOfRun starts regions last size p n s t (Err Memory) = Unit {0}

-- ---- while it is made

-- a machine runs some program whose blocks begin at these addresses
pub record IsMachineOf (starts : List ℕ) (m : Source) : Type 0 where
  pub some : Program
  pub is : IsProgram some m
  pub ascending : IsStrictlyIncreasing starts
  pub blocks : (a : ℕ) → some.is_block a ≡ has starts a
  pub reached : (a : ℕ) → some.is_reached a ≡ true → some.is_block a ≡ true

-- what is known of the next unit: which block begins there, if one does; with the first transition one does; and a unit
-- of 4 bytes stands for each that ran of its block
pub record IsComing (starts : List ℕ) (pc : ℕ) (transitions : List Transition) (t : Tally) (coming : Option ℕ) : Type 0 where
  pub at : IsBlockAt starts pc coming
  pub first : length transitions ≡ 0 → has starts pc ≡ true
  pub behind : coming ≡ None → 4 * t.units ≤ pc

abbrev pub WhileGoing : Outcome → Type 0 → Type 0
WhileGoing GoesOn P = P
WhileGoing (Exited code) P = Unit {0}
WhileGoing (Trapped pc) P = Unit {0}
WhileGoing (AddressFault pc why) P = Unit {0}

pub record IsSoFar (starts regions : List ℕ) (last size : ℕ) (p : Program) (s : SourceState) (i : ℕ) (m : Source) (t : Tally) (coming : Option ℕ) : Type 0 where
  pub is : IsProgram p m
  pub transitions : List Transition
  pub run : Transitions p i s transitions (state_of p m)
  pub few : length transitions ≤ i
  pub tally : IsTally starts regions last size transitions t
  pub next : WhileGoing (state_of p m).outcome (IsComing starts (state_of p m).pc transitions t coming)

-- a step was taken and counted
pub record IsCounted (starts regions : List ℕ) (p : Program) (old new : Source) (coming next : Option ℕ) (t y : Tally) : Type 0 where
  pub is : IsProgram p new
  pub event : Event
  pub step : Step p (state_of p old) event (state_of p new)
  pub counted : HasCounted regions coming event.access next t y
  pub next_is : IsNext starts (is_going event.outcome) (state_of p new).pc next

-- all steps were taken
pub record IsAll (starts regions : List ℕ) (last size : ℕ) (p : Program) (s t : SourceState) (n : ℕ) (y : Tally) : Type 0 where
  pub transitions : List Transition
  pub run : Transitions p n s transitions t
  pub tally : IsTally starts regions last size transitions y
