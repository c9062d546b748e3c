-- Which words a file runs beside a run of its program where all stands at home, and which accesses it makes.
use Rattle.std.specs.Prelude.{◌≡◌, ℕ, suc, ◌+◌, if◌then◌else◌, List, [], ◌∷◌, ◌++◌, map, Option}
use Rattle.rv32im.specs.declared.instructions.Instr.{Instr}
use Rattle.elf_reader.specs.Loadable.{AreBytes}
use Rattle.board_config.specs.declared.board.Board.{Board}
use Rattle.flat_machine.specs.declared.events.FlatEvent.{FlatEvent}
use Rattle.flat_machine.specs.declared.events.FlatOutcome.TheVariants as flat
use Rattle.flat_machine.specs.Runs.{Does}
use Rattle.flat_machine.specs.State.{State}
use Rattle.object_graph.specs.declared.parts.Graph.{Graph}
use Rattle.patch_code.specs.Told.{accesses}
use Rattle.object_machine.specs.declared.events.Outcome.TheVariants.{GoesOn}
use Rattle.object_machine.specs.Program.{Program}
use Rattle.object_machine.specs.State.{SourceState}
use Rattle.object_machine.specs.Step.{Reads, next_state}
use Rattle.object_machine.specs.Runs.{HasEnded}
use Rattle.object_machine.specs.Paired.{at_start, PairedSteps}
use Rattle.simulation.specs.Laws.{EndsAlike}
use Rattle.result_laws.specs.HomeLaws.{IsAccepted, program_in, setup_in, source_start, file_start}
use Rattle.result_laws.specs.Walks.{address_in, unit_accesses, IsNoFault}

-- the words of a unit at home: two of a call pair, and else one
abbrev pub home_fetched : Program → ℕ → List ℕ
home_fetched p u = if p.is_pair u then u ∷ (u + 4) ∷ [] else u ∷ []

-- they are fetched, and the accesses of the unit are made where the file has its objects
pub record HomeUnitRuns (file : List ℕ) (board : Board) (g : Graph) (s : SourceState) (read : Option Instr) (es : List FlatEvent) : Type 0 where
  pub addresses : map address_in es ≡ home_fetched (program_in file board g) s.pc
  pub accesses : IsNoFault (next_state (program_in file board g) s read).outcome
      → accesses es ≡ unit_accesses (program_in file board g) s ((setup_in file board g).place 0) read

-- those of `n` steps, from a state of the flat machine on. Where the program goes on, so does that
pub data HomeWalks (file : List ℕ) (board : Board) (g : Graph) : ℕ → SourceState → SourceState → State → List FlatEvent → Type 0 where
  NoSteps : (s : SourceState) (t : State) → HomeWalks file board g 0 s s t []
  Ended : (n : ℕ) (s : SourceState) (t : State) → HasEnded s.outcome → HomeWalks file board g n s s t []
  Step : (n : ℕ) (s s' : SourceState) (read : Option Instr) (t t' : State) (es fs : List FlatEvent) → s.outcome ≡ GoesOn
      → t.outcome ≡ flat.GoesOn → Reads ((program_in file board g).word s.pc) read → HomeUnitRuns file board g s read es → Does es t t'
      → HomeWalks file board g n (next_state (program_in file board g) s read) s' t' fs
      → HomeWalks file board g (suc n) s s' t (es ++ fs)

-- a file runs so from its start beside a run of its program, which it ends alike
pub record WalksHome (file : List ℕ) (board : Board) (g : Graph) (input : List ℕ) (n : ℕ) (s : SourceState) : Type 0 where
  pub events : List FlatEvent
  pub last : State
  pub does : Does events (file_start file board input) last
  pub walk : HomeWalks file board g n (source_start file board g input) s (file_start file board input) events
  pub ends : EndsAlike s.outcome s last

-- so it does beside each paired run that meets no address fault
abbrev pub PairedRunsWalkHome : Type 0
PairedRunsWalkHome =
    (file : List ℕ) (board : Board) (g : Graph) (input : List ℕ) (n : ℕ) (s : SourceState) → IsAccepted file board g → AreBytes input
    → PairedSteps (program_in file board g) n (source_start file board g input) at_start s → IsNoFault s.outcome
    → WalksHome file board g input n s
