use Rattle.std.proofs.Common.{◌∙◌, ◌<◌, length, subst, sym, ap}
use Rattle.block_splitter.specs.Forms.{Body, kind_of, is_site, displaced_size}
use Rattle.energy_model.proofs.PriceLemmas.{body_here}
use Rattle.placement_candidates.proofs.overlay_parts.displaced_at.Goals as goal

pub kind_of-requires-clause-place : goal.kind_of-requires-clause-place
kind_of-requires-clause-place c =
    let body = body_here c.args.m.now.code.now.blocks.items c.args.b c.index-block.result.now c.requires.inside c.index-block.ensures in
    subst (λ (b : Body). 0 < length b.units) body (c.requires.weigh.filled c.args.b c.requires.inside)

pub returns-clause-is : goal.returns-clause-is
returns-clause-is c =
    let body = body_here c.args.m.now.code.now.blocks.items c.args.b c.index-block.result.now c.requires.inside c.index-block.ensures in
    c.displaced_size.ensures.is ∙ ap displaced_size c.kind_of.ensures ∙ ap (λ (b : Body). displaced_size (kind_of (is_site c.args.m.now.graph.now) b 0)) (sym body)
