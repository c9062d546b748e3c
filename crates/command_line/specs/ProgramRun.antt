-- What a command that runs the program of a file measures by it, and its first fault.
use Rattle.std.specs.Prelude.{◌≡◌, ◌⊎◌, ℕ, List, Option, Some, None}
use Rattle.elf_reader.specs.File.{view_in}
use Rattle.board_config.specs.declared.board.Board.{Board}
use Rattle.object_machine.specs.declared.events.Outcome.{Outcome}
use Rattle.object_machine.specs.declared.events.Outcome.TheVariants.{AddressFault}
use Rattle.placement_programme.specs.Plain.{PlainProgramme}
use Rattle.relink_core.specs.Findings.{Findings}
use Rattle.printed_lines.specs.Endings.{IsAddressFault}
use Rattle.relinking.specs.Runs.{RunsProgram}
use Rattle.relinking.specs.ProgrammeOfRun.{StatesProgramme}
use Rattle.command_language.specs.FaultLine.{Parts, address_parts, parts_of}
use Rattle.command_line.specs.Analysed.{Accepts, ReportsAnalysed}
use Rattle.command_language.specs.declared.faults.CommandFault.{CommandFault}
use Rattle.command_language.specs.declared.faults.CommandFault.TheVariants as command_fault

-- the run of a file's program on an input states this programme
pub record StatesOf (file : List ℕ) (board : Board) (input : List ℕ) (p : PlainProgramme) : Type 0 where
  pub found : Findings file board
  pub states : StatesProgramme (view_in file) board found.graph found.code found.regions found.pieces input p

-- what is told of the first fault, if there is one: those of the board and the file come before the run
pub data ReportsProfiled (board_text file input : List ℕ) (told : Option Parts) : Type 0 where
  of_files : (parts : Parts) → ReportsAnalysed board_text file parts → told ≡ Some parts
      → ReportsProfiled board_text file input told
  of_run : (board : Board) (pc why : ℕ) → Accepts board_text file board
      → RunsProgram file board input (AddressFault pc why) → told ≡ Some (address_parts pc why)
      → ReportsProfiled board_text file input told
  of_none : (board : Board) (outcome : Outcome) → Accepts board_text file board
      → RunsProgram file board input outcome → (IsAddressFault outcome → ⊥) → told ≡ None
      → ReportsProfiled board_text file input told

-- a computation on the inputs was rejected: for want of memory, or by the first fault
abbrev pub RejectsProfiled : List ℕ → List ℕ → List ℕ → CommandFault → Type 0
RejectsProfiled board_text file input fault =
    (fault ≡ command_fault.Memory) ⊎ ReportsProfiled board_text file input (Some (parts_of fault))
