-- Where the addresses of a program's objects may be while it runs.
use Rattle.std.specs.Prelude.{◌≡◌, ℕ, List, Option}
use Rattle.elf_reader.specs.File.{view_in}
use Rattle.board_config.specs.declared.board.Board.{Board}
use Rattle.rv32im.specs.declared.instructions.Instr.{Instr}
use Rattle.object_graph.specs.declared.parts.Graph.{Graph}
use Rattle.code_blocks.specs.Blocks.{IsCode}
use Rattle.code_blocks.specs.declared.parts.Code.{Code}
use Rattle.dataflow.specs.Points.{Before, Escapes}
use Rattle.object_machine.specs.declared.events.Outcome.TheVariants.{GoesOn}
use Rattle.object_machine.specs.State.{SourceState}
use Rattle.object_machine.specs.Step.{Reads, next_state}
use Rattle.object_machine.specs.Runs.{Steps}
use Rattle.result_laws.specs.HomeLaws.{IsAccepted, program_in, unnamed_in, source_start}
use Rattle.result_laws.specs.LiveUnits.{StandsThere}
use Rattle.result_laws.specs.Holds.{AreHeld}

-- a unit of the code is next, and addresses are where points-to says that they may be before it
pub record IsHeld (c : Code) (g : Graph) (s : SourceState) : Type 0 where
  pub block : ℕ
  pub unit : ℕ
  pub there : StandsThere c s.pc block unit
  pub held : AreHeld (Before c g block unit) (Escapes c g) s

-- the unit is any that stands at the pc
abbrev pub OneUnit : Type 0
OneUnit =
    (file : List ℕ) (board : Board) (g : Graph) (c : Code) (s : SourceState) (b k : ℕ)
    → IsAccepted file board g → IsCode (view_in file) c → IsHeld c g s → StandsThere c s.pc b k
    → AreHeld (Before c g b k) (Escapes c g) s

abbrev pub HeldAtStart : Type 0
HeldAtStart =
    (file : List ℕ) (board : Board) (g : Graph) (c : Code) (input : List ℕ)
    → IsAccepted file board g → IsCode (view_in file) c → IsHeld c g (source_start file board g input)

-- also where the step doesn't go on
abbrev pub HeldStays : Type 0
HeldStays =
    (file : List ℕ) (board : Board) (g : Graph) (c : Code) (s : SourceState) (read : Option Instr)
    → IsAccepted file board g → IsCode (view_in file) c → IsHeld c g s → s.outcome ≡ GoesOn
    → Reads ((unnamed_in file board g).word s.pc) read
    → IsHeld c g (next_state (unnamed_in file board g) s read)

abbrev pub HeldInRuns : Type 0
HeldInRuns =
    (file : List ℕ) (board : Board) (g : Graph) (c : Code) (input : List ℕ) (n : ℕ) (s : SourceState)
    → IsAccepted file board g → IsCode (view_in file) c
    → Steps (program_in file board g) n (source_start file board g input) s → IsHeld c g s
