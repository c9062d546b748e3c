use Rattle.object_graph.specs.declared.parts.Graph.{Graph}
use Rattle.block_splitter.specs.Facts.{IsTable, ArePiecesOf}
use Rattle.block_splitter.proofs.finding.pieces_among.Given as goal

abbrev pub invariant-loop-k : goal.invariant-loop-k
invariant-loop-k l = (g : Graph) → IsTable l.code g l.table → ArePiecesOf l.code g l.ranges l.k l.pieces.items
