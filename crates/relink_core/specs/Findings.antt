-- What the analyses of a file for a board find.
use Rattle.std.specs.Prelude.{ℕ, List}
use Rattle.elf_reader.specs.File.{view_in}
use Rattle.board_config.specs.declared.board.Board.{Board}
use Rattle.object_graph.specs.Graphs.{IsGraph}
use Rattle.object_graph.specs.declared.parts.Graph.{Graph}
use Rattle.code_blocks.specs.Blocks.{IsCode}
use Rattle.code_blocks.specs.declared.parts.Code.{Code}
use Rattle.block_splitter.specs.Pieces.{ArePieces}
use Rattle.block_splitter.specs.declared.piece.Piece.{Piece}
use Rattle.region_former.specs.declared.table.RegionTable.{RegionTable}
use Rattle.relink_core.specs.Regions.{AreRegions}

-- its graph, its code, its regions, and the pieces of code that may be copied
pub record Findings (file : List ℕ) (board : Board) : Type 0 where
  pub graph : Graph
  pub is_graph : IsGraph (view_in file) board graph
  pub code : Code
  pub is_code : IsCode (view_in file) code
  pub regions : RegionTable
  pub are_regions : AreRegions (view_in file) code board regions
  pub pieces : List Piece
  pub are_pieces : ArePieces code graph pieces
