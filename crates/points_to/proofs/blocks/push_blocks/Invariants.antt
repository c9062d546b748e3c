use Rattle.reach_graph.specs.Reaching.{plain_rows}
use Rattle.points_to.specs.Nodes.{Adds, Upto, BlockEdges}
use Rattle.points_to.proofs.blocks.push_blocks.Given as goal

abbrev pub invariant-loop-block : goal.invariant-loop-block
invariant-loop-block l = Adds (Upto l.block (BlockEdges l.code l.graph l.nodes.blocks)) (plain_rows l.fn.graph_edges) (plain_rows l.graph_edges)
