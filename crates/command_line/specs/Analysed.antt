-- A board and a file that is analysed for it, and what is told of their first fault.
use Rattle.std.specs.Prelude.{◌≡◌, ◌⊎◌, ℕ, List, Some, None}
use Rattle.board_config.specs.Board.{IsBoard}
use Rattle.board_config.specs.Faults.{Fault}
use Rattle.board_config.specs.Keys.{first_key}
use Rattle.board_config.specs.declared.board.Board.{Board}
use Rattle.relink_core.specs.Faults.{IsFaultless, IsFirst}
use Rattle.relink_core.specs.declared.fault.AnalyseFault.{AnalyseFault}
use Rattle.relink_core.specs.Choices.{IsAnalysisOf}
use Rattle.command_language.specs.FaultLine.{Parts, board_parts, analyse_parts, parts_of}
use Rattle.command_line.specs.declared.opened.Opened.{Opened}
use Rattle.command_language.specs.declared.faults.CommandFault.{CommandFault}
use Rattle.command_language.specs.declared.faults.CommandFault.TheVariants as command_fault

-- the text is that of a board for which no check of the file fails
pub record Accepts (board_text file : List ℕ) (board : Board) : Type 0 where
  pub is_board : IsBoard board_text board
  pub sound : first_key board_text ≡ None
  pub no_fault : IsFaultless file board

-- this is told of the first fault: the board comes before the file
pub data ReportsAnalysed (board_text file : List ℕ) (told : Parts) : Type 0 where
  of_board : (fault : Fault) → first_key board_text ≡ Some fault → told ≡ board_parts fault
      → ReportsAnalysed board_text file told
  of_analysis : (board : Board) (fault : AnalyseFault) → IsBoard board_text board → first_key board_text ≡ None
      → IsFirst file board fault → told ≡ analyse_parts fault
      → ReportsAnalysed board_text file told

-- they were opened: the text is that of the board, and the analysis is that of the file for it
pub record IsOpened (board_text file : List ℕ) (o : Opened) : Type 0 where
  pub accepts : Accepts board_text file o.board
  pub analysed : IsAnalysisOf file o.board o.analysis

-- a computation on both was rejected: for want of memory, or by the first fault
abbrev pub RejectsAnalysed : List ℕ → List ℕ → CommandFault → Type 0
RejectsAnalysed board_text file fault =
    (fault ≡ command_fault.Memory) ⊎ ReportsAnalysed board_text file (parts_of fault)
