use Rattle.reach_graph.specs.Reaching.{plain_rows}
use Rattle.points_to.specs.Nodes.{Adds, Upto, PlaceEdge}
use Rattle.points_to.proofs.edges.push_places.Given as goal

abbrev pub invariant-loop-y : goal.invariant-loop-y
invariant-loop-y l = Adds (Upto l.y (PlaceEdge l.from l.base l.places)) (plain_rows l.fn.graph_edges) (plain_rows l.graph_edges)
