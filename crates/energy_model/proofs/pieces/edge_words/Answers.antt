use Rattle.std.proofs.Common.{◌<◌, length, subst}
use Rattle.block_splitter.specs.Forms.{Body, body_of, body_at}
use Rattle.energy_model.specs.Counts.{LeadsToBlocks}
use Rattle.energy_model.proofs.PriceLemmas.{body_here}
use Rattle.energy_model.proofs.EdgeLemmas.{body_leaves}
use Rattle.energy_model.proofs.pieces.edge_words.Goals as goal

pub leaving_words-requires-clause-some : goal.leaving_words-requires-clause-some
leaving_words-requires-clause-some c =
    let body = body_here c.args.code.now.blocks.items c.args.a c.index-block.result.now c.requires.inside c.index-block.ensures in
    subst (λ (b : Body). 0 < length b.units) body (c.requires.counts.1.filled c.args.a c.requires.inside)

pub leaving_words-requires-clause-leads : goal.leaving_words-requires-clause-leads
leaving_words-requires-clause-leads c =
    let body = body_here c.args.code.now.blocks.items c.args.a c.index-block.result.now c.requires.inside c.index-block.ensures in
    subst (λ (b : Body). LeadsToBlocks c.args.code.now b.end) body (c.requires.range.leads c.args.a c.requires.held)

pub returns-clause-sum : goal.returns-clause-sum
returns-clause-sum c =
    let body = body_here c.args.code.now.blocks.items c.args.a c.index-block.result.now c.requires.inside c.index-block.ensures in
    body_leaves c.args.code.now c.args.graph.now c.args.range.now c.leaving_words.result c.start_of-next.result c.args.to (body_at c.args.code.now.blocks.items c.args.a) (body_of c.index-block.result.now) body c.start_of-next.ensures c.leaving_words.ensures.sum
