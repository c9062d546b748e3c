use Rattle.points_to.proofs.BlockLemmas.{all_adds}
use Rattle.points_to.proofs.blocks.push_all.Goals as goal

pub returns : goal.returns
returns c =
    all_adds c.args.code.now c.args.graph.now c.args.nodes.blocks _ _ _ _ c.in_ok-push_blocks.ensures c.in_ok-push_arrivals.ensures c.in_ok-push_words.ensures
