-- What holds of choices that are realised.
use Rattle.std.specs.Prelude.{◌≡◌, ℕ, Bool, true, false, List}
use Rattle.board_config.specs.declared.board.Board.{Board}
use Rattle.object_graph.specs.declared.parts.Graph.{Graph}
use Rattle.code_blocks.specs.declared.parts.Code.{Code}
use Rattle.region_former.specs.declared.table.RegionTable.{RegionTable}
use Rattle.block_splitter.specs.declared.piece.Piece.{Piece}
use Rattle.placement_programme.specs.Plain.{PlainProgramme, PlainChoice}
use Rattle.relocator.specs.Laws.{CanLayOut}
use Rattle.result_laws.specs.Choices.{IsChoiceFor}

-- how many regions a side has. Without overlay there is none
abbrev pub regions_on : Bool → RegionTable → ℕ
regions_on false t = 0
regions_on true t = t.count

-- it can be laid out, where the graph keeps the board's grain
abbrev pub ChoiceLaysOut : Type 0
ChoiceLaysOut =
    (board : Board) (g : Graph) (c : Code) (t : RegionTable) (pieces : List Piece) (p : PlainProgramme) (choice : PlainChoice)
    → g.grain ≡ board.grain → IsChoiceFor board g c t pieces p choice → CanLayOut g (regions_on choice.on t) board p choice
