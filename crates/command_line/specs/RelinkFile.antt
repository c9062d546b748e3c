-- What `relink` makes of a file, a board and an input: a choice of the programme that the run states, the file that
-- realises it, the choice's certificate, and a report.
use Rattle.std.specs.Prelude.{ℕ, Bool, List}
use Rattle.elf_reader.specs.File.{view_in}
use Rattle.board_config.specs.declared.board.Board.{Board}
use Rattle.placement_programme.specs.Plain.{PlainProgramme, PlainChoice}
use Rattle.command_line.specs.Analysed.{Accepts}
use Rattle.command_line.specs.ProgramRun.{StatesOf}
use Rattle.relinking.specs.Relink.{IsResult}
use Rattle.relinking.specs.Report.{IsRelinkReport}

-- The choice is one of the programme that the run states, and the certificate says whether it is a best one. The
-- result realises it and keeps the file's meaning, on any input; where nothing is taken without overlay it is the file, and
-- paired runs are spoken of.
pub record RelinksTo (file board_text input certificate out report : List ℕ) : Type 0 where
  pub board : Board
  pub accepts : Accepts board_text file board
  pub programme : PlainProgramme
  pub states : StatesOf file board input programme
  pub choice : PlainChoice
  pub says_optimal : Bool
  pub result : IsResult file board states.found.graph states.found.code states.found.regions programme choice says_optimal certificate out
  pub is_report : IsRelinkReport (view_in file) board states.found.graph states.found.code programme choice says_optimal report
