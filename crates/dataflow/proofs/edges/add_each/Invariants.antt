use Rattle.reach_graph.specs.Reaching.{plain_rows}
use Rattle.dataflow.specs.BackEdges.{Adds, ListEdges}
use Rattle.dataflow.proofs.edges.add_each.Given as goal

abbrev pub invariant-loop-i : goal.invariant-loop-i
invariant-loop-i l = Adds (ListEdges l.nodes l.i l.to l.mask) (plain_rows l.fn.rows) (plain_rows l.rows)
