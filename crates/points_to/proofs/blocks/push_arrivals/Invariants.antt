use Rattle.reach_graph.specs.Reaching.{plain_rows}
use Rattle.points_to.specs.Nodes.{Adds, Upto, ArrivalEdge}
use Rattle.points_to.proofs.blocks.push_arrivals.Given as goal

abbrev pub invariant-loop-i : goal.invariant-loop-i
invariant-loop-i l = Adds (Upto l.i (ArrivalEdge l.code l.nodes.blocks)) (plain_rows l.fn.graph_edges) (plain_rows l.graph_edges)
