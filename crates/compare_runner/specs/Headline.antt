-- What the relinked program does: on the machine that runs both files, OUT shows what FILE shows, and nothing else.
use Rattle.std.specs.Prelude.{◌≡◌, ◌⊎◌, ℕ, List, ◌++◌}
use Rattle.elf_reader.specs.File.{view_in}
use Rattle.elf_reader.specs.Loadable.{AreBytes}
use Rattle.board_config.specs.declared.board.Board.{Board}
use Rattle.flat_machine.specs.State.{State}
use Rattle.flat_machine.specs.Runs.{Steps}
use Rattle.flat_machine.specs.declared.events.FlatOutcome.TheVariants.{GoesOn, Exited, Trapped}
use Rattle.object_graph.specs.Graphs.{IsGraph}
use Rattle.object_graph.specs.declared.parts.Graph.{Graph}
use Rattle.object_machine.specs.State.{SourceState}
use Rattle.object_machine.specs.Runs as program_runs
use Rattle.object_machine.specs.Paired.{at_start, PairedSteps}
use Rattle.result_laws.specs.HomeLaws.{program_in, source_start, file_start}
use Rattle.result_laws.specs.Absolute.{IsAbsolute}
use Rattle.result_laws.specs.Walks.{IsNoFault}

-- ---- what can be seen of a run

-- some number of steps leads to such a state
abbrev pub Reaches : State → (State → Type 0) → Type 0
Reaches start Holds = (n : ℕ) × ((t : State) × (Steps n start t × Holds t))

-- it exits with a code, and has written these bytes then
abbrev pub Exits : State → ℕ → List ℕ → Type 0
Exits start code written = Reaches start (λ t. (t.outcome ≡ Exited code) × (t.output ≡ written))

-- it traps, at any instruction, and has written these bytes then
abbrev pub Traps : State → List ℕ → Type 0
Traps start written = Reaches start (λ t. ((pc : ℕ) × (t.outcome ≡ Trapped pc)) × (t.output ≡ written))

-- it goes on for ever: each number of steps leads to a state that goes on
abbrev pub NeverEnds : State → Type 0
NeverEnds start = (n : ℕ) → (t : State) × (Steps n start t × (t.outcome ≡ GoesOn))

-- at some time it has written these bytes, and perhaps more behind them
abbrev pub Writes : State → List ℕ → Type 0
Writes start written = Reaches start (λ t. (more : List ℕ) × (t.output ≡ written ++ more))

-- what the one shows, the other shows
pub record ShowsAllOf (one other : State) : Type 0 where
  pub exits : (code : ℕ) (written : List ℕ) → Exits one code written → Exits other code written
  pub traps : (written : List ℕ) → Traps one written → Traps other written
  pub never_ends : NeverEnds one → NeverEnds other
  pub writes : (written : List ℕ) → Writes one written → Writes other written

pub record ShowTheSame (one other : State) : Type 0 where
  pub there : ShowsAllOf one other
  pub back : ShowsAllOf other one

-- ---- what is asked of the program

-- each number of steps leads to a state that is no address fault: no address is used as a plain number
abbrev pub MeetsNoFault : (ℕ → SourceState → Type 0) → Type 0
MeetsNoFault leads = (n : ℕ) → (s : SourceState) × (leads n s × IsNoFault s.outcome)

abbrev pub IsFaultFree : List ℕ → Board → Graph → List ℕ → Type 0
IsFaultFree file board g input =
    MeetsNoFault (λ n s. program_runs.Steps (program_in file board g) n (source_start file board g input) s)

-- and each low part of an address meets the upper part that its relocation names
abbrev pub IsPairedFaultFree : List ℕ → Board → Graph → List ℕ → Type 0
IsPairedFaultFree file board g input =
    MeetsNoFault (λ n s. PairedSteps (program_in file board g) n (source_start file board g input) at_start s)

-- one of both: the second is asked only where the code makes addresses relative to the pc
abbrev pub RunsSafely : List ℕ → Board → Graph → List ℕ → Type 0
RunsSafely file board g input =
    (IsAbsolute (view_in file) × IsFaultFree file board g input) ⊎ IsPairedFaultFree file board g input

-- ---- the promise

-- on each input on which the program of a file runs so, the file and its result show the same
abbrev pub OutDoesWhatFileDoes : List ℕ → List ℕ → Board → Type 0
OutDoesWhatFileDoes file out board =
    (g : Graph) (input : List ℕ) → IsGraph (view_in file) board g → AreBytes input → RunsSafely file board g input
    → ShowTheSame (file_start file board input) (file_start out board input)
