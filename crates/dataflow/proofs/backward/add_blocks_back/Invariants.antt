use Rattle.reach_graph.specs.Reaching.{plain_rows}
use Rattle.dataflow.specs.BackEdges.{Adds, BackEdges}
use Rattle.dataflow.proofs.backward.add_blocks_back.Given as goal

abbrev pub invariant-loop-block : goal.invariant-loop-block
invariant-loop-block l = Adds (BackEdges l.code l.hub l.block) (plain_rows l.fn.rows) (plain_rows l.rows)
