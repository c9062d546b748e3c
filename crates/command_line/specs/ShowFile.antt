-- What `show` tells of a file and a board.
use Rattle.std.specs.Prelude.{◌≡◌, ℕ, List, Option, Some, None}
use Rattle.elf_reader.specs.File.{view_in}
use Rattle.board_config.specs.declared.board.Board.{Board}
use Rattle.code_blocks.specs.Numbers.{starts_of}
use Rattle.relink_core.specs.Findings.{Findings}
use Rattle.command_language.specs.FaultLine.{Parts}
use Rattle.command_line.specs.Analysed.{Accepts, ReportsAnalysed}
use Rattle.printed_lines.specs.ShowLines.{show_text}

-- the lines tell the objects of the program that may move on the board, and its functions with their regions
pub record ShowsTo (file board_text text : List ℕ) : Type 0 where
  pub board : Board
  pub accepts : Accepts board_text file board
  pub found : Findings file board
  pub text_is :
      text ≡ show_text (view_in file) found.graph.objects.items found.code.functions.items (starts_of found.code) found.regions.of_block.items

-- what is told of the first fault, if there is one: those of the board and the file are all
pub data ReportsShown (board_text file : List ℕ) (told : Option Parts) : Type 0 where
  of_files : (parts : Parts) → ReportsAnalysed board_text file parts → told ≡ Some parts
      → ReportsShown board_text file told
  of_none : (board : Board) → Accepts board_text file board → told ≡ None → ReportsShown board_text file told
