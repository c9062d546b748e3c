use Rattle.std.proofs.Common.{length, true, false, ◌∙◌, sym}
use Rattle.energy_model.specs.Copied.{block_words, pending}
use Rattle.energy_model.proofs.PieceLemmas.{listed, closed_are}
use Rattle.energy_model.proofs.pieces.terms.Goals as goal

pub closed_terms-requires-clause-home : goal.closed_terms-requires-clause-home
closed_terms-requires-clause-home c =
    listed (block_words c.args.code.now c.args.graph.now c.args.profile.now false) (length c.args.code.now.blocks.items) c.args.b c.args.counts.now.home.items c.requires.blocks.listed.home c.requires.inside

pub closed_terms-requires-clause-copied : goal.closed_terms-requires-clause-copied
closed_terms-requires-clause-copied c =
    listed (block_words c.args.code.now c.args.graph.now c.args.profile.now true) (length c.args.code.now.blocks.items) c.args.b c.args.counts.now.copied.items c.requires.blocks.listed.copied c.requires.inside

pub closed_terms-requires-clause-pending : goal.closed_terms-requires-clause-pending
closed_terms-requires-clause-pending c =
    listed (pending c.args.code.now c.args.profile.now) (length c.args.code.now.blocks.items) c.args.b c.args.counts.now.pending.items c.requires.blocks.listed.pending c.requires.inside

pub returns-else-block_may_stay : goal.returns-else-block_may_stay
returns-else-block_may_stay c =
    closed_are c.args.code.now c.args.graph.now c.args.profile.now c.args.counts.now c.args.range.now c.args.b c.closed_terms.result c.requires.counts c.requires.blocks c.requires.inside (sym c.block_may_stay.ensures ∙ c.if-block_may_stay.false) c.closed_terms.ensures
