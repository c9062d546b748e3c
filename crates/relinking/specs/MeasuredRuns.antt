-- How the run ends by which the program of a file is measured.
use Rattle.std.specs.Prelude.{◌≡◌, ℕ, List, length}
use Rattle.elf_reader.specs.File.{PlainView}
use Rattle.board_config.specs.declared.board.Board.{Board}
use Rattle.object_graph.specs.declared.parts.Graph.{Graph}
use Rattle.object_machine.specs.Program.{program_of}
use Rattle.object_machine.specs.State.{SourceState}
use Rattle.object_machine.specs.Start.{start_of}
use Rattle.profile_runner.specs.Transition.{Transition}
use Rattle.profile_runner.specs.Transitions.{Transitions}
use Rattle.relinking.specs.declared.measuring.MeasuredEnd.{MeasuredEnd}

-- the program, started on an input, takes so many steps, the board's or fewer where it ends, comes to this outcome, and
-- then stands at this address
pub record EndsSo (v : PlainView) (board : Board) (g : Graph) (input : List ℕ) (end : MeasuredEnd) : Type 0 where
  pub transitions : List Transition
  pub last : SourceState
  pub run : Transitions (program_of v board g) board.steps (start_of v (program_of v board g) g input) transitions last
  pub steps_are : end.steps ≡ length transitions
  pub outcome_is : end.outcome ≡ last.outcome
  pub at_is : end.at ≡ last.pc
