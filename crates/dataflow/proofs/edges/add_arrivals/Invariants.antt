use Rattle.reach_graph.specs.Reaching.{plain_rows}
use Rattle.dataflow.specs.BackEdges.{Adds, ArrivalEdges}
use Rattle.dataflow.proofs.edges.add_arrivals.Given as goal

abbrev pub invariant-loop-i : goal.invariant-loop-i
invariant-loop-i l = Adds (ArrivalEdges l.code l.hub l.i) (plain_rows l.fn.rows) (plain_rows l.rows)
