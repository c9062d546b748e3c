use Rattle.std.proofs.Common.{◌∙◌, length, true, false, sym}
use Rattle.energy_model.specs.Copied.{block_words, pending}
use Rattle.energy_model.proofs.PieceLemmas.{listed, edge_starts_at}
use Rattle.energy_model.proofs.StretchLemmas.{few_taken, closed_whole, open_whole}
use Rattle.energy_model.proofs.stretches.whole_terms.Goals as goal

pub closed_terms-listed-requires-clause-home : goal.closed_terms-listed-requires-clause-home
closed_terms-listed-requires-clause-home c =
    listed (block_words c.args.code.now c.requires.code.0 c.args.profile.now false) (length c.args.code.now.blocks.items) c.args.b c.args.counts.now.home.items c.requires.code.1.1.home c.requires.inside

pub closed_terms-listed-requires-clause-copied : goal.closed_terms-listed-requires-clause-copied
closed_terms-listed-requires-clause-copied c =
    listed (block_words c.args.code.now c.requires.code.0 c.args.profile.now true) (length c.args.code.now.blocks.items) c.args.b c.args.counts.now.copied.items c.requires.code.1.1.copied c.requires.inside

pub closed_terms-listed-requires-clause-pending : goal.closed_terms-listed-requires-clause-pending
closed_terms-listed-requires-clause-pending c =
    listed (pending c.args.code.now c.args.profile.now) (length c.args.code.now.blocks.items) c.args.b c.args.counts.now.pending.items c.requires.code.1.1.pending c.requires.inside

pub returns-then-not-block_may_stay : goal.returns-then-not-block_may_stay
returns-then-not-block_may_stay c = λ g counts listed.
    closed_whole c.args.code.now g c.args.profile.now c.args.counts.now c.args.b c.closed_terms-listed.result listed c.requires.inside (sym c.block_may_stay.ensures ∙ c.if-not-block_may_stay.true) c.closed_terms-listed.ensures

pub taken_from-requires-clause-starts : goal.taken_from-requires-clause-starts
taken_from-requires-clause-starts c =
    edge_starts_at c.args.profile.now.edges.items (length c.args.code.now.blocks.items) c.args.b c.args.counts.now.edges.items c.requires.code.1.1.edges c.requires.inside

pub taken_from-requires-clause-small : goal.taken_from-requires-clause-small
taken_from-requires-clause-small c =
    few_taken c.args.code.now c.requires.code.0 c.args.profile.now c.args.b c.requires.code.1.0 c.requires.inside (sym c.block_may_stay.ensures ∙ c.if-not-block_may_stay.false)

pub returns : goal.returns
returns c = λ g counts listed.
    open_whole c.args.code.now g c.args.profile.now c.args.counts.now c.args.b c.taken_from.result c.closed_terms-listed.result listed c.requires.inside (sym c.block_may_stay.ensures ∙ c.if-not-block_may_stay.false) c.closed_terms-listed.ensures c.taken_from.ensures
