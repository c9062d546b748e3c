use Rattle.std.proofs.Common.{◌+◌}
use Rattle.reach_graph.specs.Reaching.{plain_rows}
use Rattle.dataflow.specs.BackEdges.{BackEdges, MaskEdges}
use Rattle.dataflow.proofs.MarkLemmas.{all_set}
use Rattle.dataflow.proofs.GraphEdgeLemmas.{adds_none, adds_both}
use Rattle.dataflow.proofs.EdgeLemmas.{no_back, back_more}
use Rattle.dataflow.proofs.backward.add_blocks_back.Goals as goal

pub loop-block-init : goal.loop-block-init
loop-block-init c =
    adds_none (BackEdges c.args.code.now c.args.hub 0) (plain_rows c.args.rows.now) (no_back c.args.code.now c.args.hub)

pub loop-block-preserved : goal.loop-block-preserved
loop-block-preserved c =
    let code = c.args.code.now in
    let hub = c.args.hub in
    let b = c.loop-block.block in
    adds_both (BackEdges code hub b) (MaskEdges code hub b 18446744073709551615) (BackEdges code hub (b + 1)) (plain_rows c.args.rows.now)
    (plain_rows c.loop-block.rows) (plain_rows c.add_block.new.rows) c.loop-block.invariant c.in_ok-add_block.ensures
    (back_more code hub b 18446744073709551615 all_set)
