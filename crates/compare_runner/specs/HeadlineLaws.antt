-- What holds of the promise between a file and its result: where it holds, by which steps, and what its words pin.
use Rattle.std.specs.Prelude.{◌≡◌, ℕ, ◌+◌, ◌*◌, ◌≤◌, List, ◌++◌, None}
use Rattle.elf_reader.specs.File.{view_in}
use Rattle.elf_reader.specs.Loadable.{AreBytes}
use Rattle.board_config.specs.Board.{IsLawful}
use Rattle.board_config.specs.declared.board.Board.{Board}
use Rattle.flat_machine.specs.State.{State}
use Rattle.flat_machine.specs.Runs.{Steps}
use Rattle.flat_machine.specs.Runs as flat_runs
use Rattle.flat_machine.specs.declared.events.FlatOutcome.{FlatOutcome}
use Rattle.flat_machine.specs.declared.events.FlatOutcome.TheVariants.{GoesOn, Exited, Trapped}
use Rattle.object_graph.specs.Graphs.{IsGraph}
use Rattle.object_graph.specs.declared.parts.Graph.{Graph}
use Rattle.object_machine.specs.declared.events.Outcome.{Outcome}
use Rattle.object_machine.specs.declared.events.Outcome.TheVariants as program
use Rattle.object_machine.specs.State.{SourceState}
use Rattle.object_machine.specs.Runs as program_runs
use Rattle.object_machine.specs.Paired.{at_start, PairedSteps}
use Rattle.result_laws.specs.HomeLaws.{program_in, source_start, file_start}
use Rattle.result_laws.specs.Absolute.{IsAbsolute}
use Rattle.result_laws.specs.ResultLaws.{most_steps}
use Rattle.result_laws.specs.Walks.{IsNoFault}
use Rattle.relink_core.specs.Faults.{analyse_fault}
use Rattle.relink_core.specs.Placed.{Taken}
use Rattle.relink_core.specs.Choices.{KeepsMeaning}
use Rattle.compare_runner.specs.declared.comparing.Comparison.TheVariants.{Same}
use Rattle.compare_runner.specs.Headline.{Exits, Traps, NeverEnds, Writes, IsFaultFree, IsPairedFaultFree, OutDoesWhatFileDoes}
use Rattle.compare_runner.specs.Laws.{ComparesFiles}

-- the result keeps the meaning of a file in which the analysis finds no fault
pub record IsKept (taken : Taken) (file out : List ℕ) (board : Board) : Type 0 where
  pub bytes : AreBytes file
  pub lawful : IsLawful board
  pub no_fault : analyse_fault file board ≡ None
  pub keeps : KeepsMeaning taken file out board

abbrev pub KeptDoesWhatFileDoes : Type 0
KeptDoesWhatFileDoes =
    (taken : Taken) (file out : List ℕ) (board : Board) → IsKept taken file out board → OutDoesWhatFileDoes file out board

-- ---- step by step

-- both go on, or exited with one code, or trapped
abbrev pub SameEnd : FlatOutcome → FlatOutcome → Type 0
SameEnd GoesOn end = end ≡ GoesOn
SameEnd (Exited code) end = end ≡ Exited code
SameEnd (Trapped pc) end = (at : ℕ) × (end ≡ Trapped at)

-- Steps from both starts, within the bound, lead to states that wrote the same and stand alike. Where the program goes on
-- after `n` steps both go on, and took as many or more; where it has ended, so have both.
pub record RunAlike (n bound : ℕ) (outcome : Outcome) (start other : State) : Type 0 where
  pub count : ℕ
  pub state : State
  pub steps : Steps count start state
  pub other_count : ℕ
  pub other_state : State
  pub other_steps : Steps other_count other other_state
  pub within : count ≤ bound
  pub other_within : other_count ≤ bound
  pub output : other_state.output ≡ state.output
  pub end : SameEnd state.outcome other_state.outcome
  pub goes_on : outcome ≡ program.GoesOn → (state.outcome ≡ GoesOn) × ((n ≤ count) × (n ≤ other_count))
  pub ended : program_runs.HasEnded outcome → flat_runs.HasEnded state.outcome

abbrev pub KeptRunsStepByStep : Type 0
KeptRunsStepByStep =
    (taken : Taken) (file out : List ℕ) (board : Board) (g : Graph) (input : List ℕ) (n : ℕ) (s : SourceState)
    → IsKept taken file out board → IsGraph (view_in file) board g → AreBytes input
    → PairedSteps (program_in file board g) n (source_start file board g input) at_start s → IsNoFault s.outcome
    → RunAlike n ((n + 1) * most_steps board) s.outcome (file_start file board input) (file_start out board input)

-- ---- where a program runs so

-- where the code makes addresses by absolute relocations alone, each run without a fault is paired
abbrev pub AbsoluteIsPaired : Type 0
AbsoluteIsPaired =
    (file : List ℕ) (board : Board) (g : Graph) (input : List ℕ) → IsGraph (view_in file) board g → IsAbsolute (view_in file)
    → IsFaultFree file board g input → IsPairedFaultFree file board g input

-- one run that ended without a fault is the whole run
abbrev pub EndedIsFaultFree : Type 0
EndedIsFaultFree =
    (file : List ℕ) (board : Board) (g : Graph) (input : List ℕ) (n : ℕ) (s : SourceState)
    → PairedSteps (program_in file board g) n (source_start file board g input) at_start s
    → program_runs.HasEnded s.outcome → IsNoFault s.outcome → IsPairedFaultFree file board g input

-- so a comparison that finds both the same, and tells that the program exited or trapped, shows that it meets no fault
abbrev pub ComparedIsFaultFree : Type 0
ComparedIsFaultFree =
    (file out : List ℕ) (board : Board) (g : Graph) (input : List ℕ) (n : ℕ) (outcome : Outcome)
    → ComparesFiles file out board g input n (Same outcome) → program_runs.HasEnded outcome → IsFaultFree file board g input

-- ---- what is seen is one thing

-- a run that exits does so with one code and one text, and neither traps nor goes on for ever; and what it wrote by then is
-- all that it ever writes
pub record ExitIsAll (start : State) (code : ℕ) (written : List ℕ) : Type 0 where
  pub code_is : (other : ℕ) (text : List ℕ) → Exits start other text → (other ≡ code) × (text ≡ written)
  pub no_trap : (text : List ℕ) → Traps start text → ⊥
  pub ends : NeverEnds start → ⊥
  pub wrote : (text : List ℕ) → Writes start text → (more : List ℕ) × (written ≡ text ++ more)

-- the same of a trap
pub record TrapIsAll (start : State) (written : List ℕ) : Type 0 where
  pub text_is : (text : List ℕ) → Traps start text → text ≡ written
  pub ends : NeverEnds start → ⊥
  pub wrote : (text : List ℕ) → Writes start text → (more : List ℕ) × (written ≡ text ++ more)

pub record WhatIsSeenIsOne : Type 0 where
  pub of_exit : (start : State) (code : ℕ) (written : List ℕ) → Exits start code written → ExitIsAll start code written
  pub of_trap : (start : State) (written : List ℕ) → Traps start written → TrapIsAll start written
