use Rattle.reach_graph.specs.Reaching.{plain_rows}
use Rattle.points_to.specs.Nodes.{Adds, Upto, RowEdge}
use Rattle.points_to.proofs.edges.push_rows.Given as goal

abbrev pub invariant-loop-x : goal.invariant-loop-x
invariant-loop-x l = Adds (Upto l.x (RowEdge l.nodes.blocks l.block l.rows)) (plain_rows l.fn.graph_edges) (plain_rows l.graph_edges)
