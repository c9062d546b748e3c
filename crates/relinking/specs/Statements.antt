-- What a run states can be realised.
use Rattle.std.specs.Prelude.{◌≡◌, ℕ, List, length}
use Rattle.board_config.specs.declared.board.Board.{Board}
use Rattle.object_graph.specs.declared.parts.Graph.{Graph}
use Rattle.code_blocks.specs.declared.parts.Code.{Code}
use Rattle.block_splitter.specs.declared.piece.Piece.{Piece}
use Rattle.region_former.specs.declared.table.RegionTable.{RegionTable}
use Rattle.profile_runner.specs.Transition.{Transition}
use Rattle.energy_model.specs.Scenes.{scene_of}
use Rattle.placement_candidates.specs.Stated.{AreSomePieces}
use Rattle.placement_candidates.specs.Overlaid.{AreOverlaidObjects, overlay_layout}
use Rattle.placement_candidates.specs.Whole.{whole_stated}
use Rattle.placement_candidates.specs.Mixed.{WeightedRun, mixed_stated}
use Rattle.relinking.specs.Relink.{AreChoicesFor}

-- pieces of a code, a table of its regions, and objects that may be overlaid
abbrev pub AreParts : Graph → Code → RegionTable → List Piece → List ℕ → Type 0
AreParts g code t pieces overlaid =
    AreSomePieces code g pieces × (length t.of_block.items ≡ length code.blocks.items) × AreOverlaidObjects code g t overlaid

-- a feasible choice of the programme that the moves of a run state for objects, of which these may be overlaid, and for
-- pieces of the code can be realised: its side has the rows for the graph, the code, its regions and the board, and its
-- variables are those of different items
abbrev pub StatedIsRealisable : Type 0
StatedIsRealisable =
    (board : Board) (g : Graph) (code : Code) (t : RegionTable) (pieces : List Piece) (overlaid : List ℕ) (moves : List Transition) → AreParts g code t pieces overlaid
    → AreChoicesFor board g code t pieces (whole_stated (scene_of g code t board) (overlay_layout g code t board) overlaid pieces moves)

-- and so can one of what several runs state together
abbrev pub MixedIsRealisable : Type 0
MixedIsRealisable =
    (board : Board) (g : Graph) (code : Code) (t : RegionTable) (pieces : List Piece) (overlaid : List ℕ) (runs : List WeightedRun) → AreParts g code t pieces overlaid
    → AreChoicesFor board g code t pieces (mixed_stated (scene_of g code t board) (overlay_layout g code t board) overlaid pieces runs)
