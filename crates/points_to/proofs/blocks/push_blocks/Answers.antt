use Rattle.std.proofs.Common.{◌≡◌, ℕ, length, subst, arith}
use Rattle.reach_graph.specs.Reaching.{plain_rows}
use Rattle.points_to.specs.Nodes.{Adds, Upto, BlockEdges}
use Rattle.points_to.proofs.EdgeLemmas.{adds_more}
use Rattle.points_to.proofs.blocks.push_blocks.Goals as goal

pub loop-block-preserved : goal.loop-block-preserved
loop-block-preserved c = adds_more c.loop-block.block (BlockEdges c.args.code.now c.args.graph.now c.args.nodes.blocks) _ _ _ c.loop-block.invariant c.in_ok-push_block.ensures

pub returns : goal.returns
returns c =
    let all : c.loop-block.block ≡ length c.args.code.now.blocks.items = omega (arith, c.requires.blocks) in
    subst (λ (m : ℕ). Adds (Upto m (BlockEdges c.args.code.now c.args.graph.now c.args.nodes.blocks)) (plain_rows c.args.graph_edges.now) (plain_rows c.loop-block.graph_edges)) all c.loop-block.invariant
