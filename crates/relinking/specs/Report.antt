-- The report on a file that was relinked.
use Rattle.std.specs.Prelude.{◌≡◌, ℕ, Bool, List, ◌++◌}
use Rattle.elf_reader.specs.File.{PlainView}
use Rattle.board_config.specs.declared.board.Board.{Board}
use Rattle.object_graph.specs.declared.parts.Graph.{Graph}
use Rattle.code_blocks.specs.declared.parts.Code.{Code}
use Rattle.placement_programme.specs.Plain.{PlainProgramme, PlainChoice}
use Rattle.relocator.specs.Placing.{chosen_slots}
use Rattle.printed_lines.specs.ReportText.{IsReport}
use Rattle.printed_lines.specs.TakenLines.{taken_lines}
use Rattle.relinking.specs.TakenItems.{items_told}

-- how the choice was found and what the run costs, and a line for each item that is taken, in order: in which regions it
-- stands in the scratchpad, and where
pub record IsRelinkReport (v : PlainView) (board : Board) (g : Graph) (c : Code) (p : PlainProgramme) (choice : PlainChoice) (says_optimal : Bool) (report : List ℕ) : Type 0 where
  pub first : List ℕ
  pub is_first : IsReport p board.nodes choice says_optimal first
  pub report_is : report ≡ first ++ taken_lines v g.objects.items (items_told g c (chosen_slots board p choice))
