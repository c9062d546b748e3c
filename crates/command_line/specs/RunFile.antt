-- What `run` makes of a file, a board and an input.
use Rattle.std.specs.Prelude.{◌≡◌, ◌⊎◌, ℕ, List, [], ◌∷◌, ◌++◌, codes, Option, Some, None, option_map}
use Rattle.std.specs.Fmt.{decimal}
use Rattle.list_checks.specs.First.{◌or_else◌}
use Rattle.elf_reader.specs.Faults.{first_fault}
use Rattle.elf_reader.specs.File.{entry_of, load_segments}
use Rattle.board_config.specs.Board.{IsBoard, mapped_ranges}
use Rattle.board_config.specs.Keys.{first_key}
use Rattle.board_config.specs.declared.board.Board.{Board}
use Rattle.flat_machine.specs.State.{State}
use Rattle.flat_machine.specs.Start.{start_of}
use Rattle.flat_machine.specs.Runs.{Steps}
use Rattle.flat_machine.specs.declared.events.FlatOutcome.{FlatOutcome}
use Rattle.flat_machine.specs.declared.events.FlatOutcome.TheVariants.{GoesOn, Exited, Trapped}
use Rattle.command_language.specs.FaultLine.{Parts, board_parts, elf_parts, parts_of}
use Rattle.command_language.specs.declared.faults.CommandFault.{CommandFault}
use Rattle.command_language.specs.declared.faults.CommandFault.TheVariants as command_fault

-- what is told of the first fault of what a command reads, if there is one: the board comes before the file
abbrev pub first_command_fault : List ℕ → List ℕ → Option Parts
first_command_fault board file =
    option_map board_parts (first_key board) or_else option_map elf_parts (first_fault file)

-- a computation on the inputs was rejected: for want of memory, or by the first fault
abbrev pub IsFirstCommandFault : List ℕ → List ℕ → CommandFault → Type 0
IsFirstCommandFault board file fault = (fault ≡ command_fault.Memory) ⊎ (first_command_fault board file ≡ Some (parts_of fault))

-- the words that tell how a machine stands
abbrev pub outcome_text : FlatOutcome → List ℕ
outcome_text GoesOn = codes "running"
outcome_text (Exited code) = codes "exited " ++ decimal code
outcome_text (Trapped pc) = codes "trapped"

-- the flat machine, started so, takes the steps, or fewer where it ends
pub record RunsFrom (start : State) (steps : ℕ) (output line : List ℕ) : Type 0 where
  pub last : State
  pub taken : Steps steps start last
  pub output_is : output ≡ last.output
  pub line_is : line ≡ outcome_text last.outcome ++ 10 ∷ []

-- The flat machine, loaded with the file's segments, takes the board's steps on the input, or fewer
-- where it ends. What it wrote is the output, and the line tells how it stands then.
pub record RunsTo (file board_text input output line : List ℕ) : Type 0 where
  pub board : Board
  pub is_board : IsBoard board_text board
  pub sound : first_command_fault board_text file ≡ None
  pub runs : RunsFrom (start_of (entry_of file) (load_segments file) (mapped_ranges board) input) board.steps output line
