use Rattle.reach_graph.specs.Reaching.{plain_rows}
use Rattle.dataflow.specs.BackEdges.{Adds, BlockEdges, AreMarks}
use Rattle.dataflow.proofs.flow.add_blocks.Given as goal

abbrev pub invariant-loop-block : goal.invariant-loop-block
invariant-loop-block l =
    record {
      edges : Adds (BlockEdges l.code l.hub l.block) (plain_rows l.fn.rows) (plain_rows l.rows);
      marks : AreMarks l.code l.block l.words;
    }
