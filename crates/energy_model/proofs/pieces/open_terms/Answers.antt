use Rattle.std.proofs.Common.{true, false, length, arith}
use Rattle.energy_model.specs.Copied.{block_words, pending}
use Rattle.energy_model.proofs.PieceLemmas.{listed, listed_value, edge_starts_at, few_leave, few_stay, open_are}
use Rattle.energy_model.proofs.pieces.open_terms.Goals as goal

pub closed_terms-listed-requires-clause-home : goal.closed_terms-listed-requires-clause-home
closed_terms-listed-requires-clause-home c =
    listed (block_words c.args.code.now c.args.graph.now c.args.profile.now false) (length c.args.code.now.blocks.items) c.args.b c.args.counts.now.home.items c.requires.blocks.listed.home c.requires.inside

pub closed_terms-listed-requires-clause-copied : goal.closed_terms-listed-requires-clause-copied
closed_terms-listed-requires-clause-copied c =
    listed (block_words c.args.code.now c.args.graph.now c.args.profile.now true) (length c.args.code.now.blocks.items) c.args.b c.args.counts.now.copied.items c.requires.blocks.listed.copied c.requires.inside

pub closed_terms-listed-requires-clause-pending : goal.closed_terms-listed-requires-clause-pending
closed_terms-listed-requires-clause-pending c =
    listed (pending c.args.code.now c.args.profile.now) (length c.args.code.now.blocks.items) c.args.b c.args.counts.now.pending.items c.requires.blocks.listed.pending c.requires.inside

pub words_leaving-leaving-requires-clause-starts : goal.words_leaving-leaving-requires-clause-starts
words_leaving-leaving-requires-clause-starts c =
    edge_starts_at c.args.profile.now.edges.items (length c.args.code.now.blocks.items) c.args.b c.args.counts.now.edges.items c.requires.blocks.listed.edges c.requires.inside

pub words_leaving-leaving-requires-clause-small : goal.words_leaving-leaving-requires-clause-small
words_leaving-leaving-requires-clause-small c =
    let few = few_leave c.args.code.now c.args.graph.now c.args.profile.now c.args.range.now c.args.b c.requires.counts c.requires.held c.requires.inside in
    omega (arith, few)

pub overflow_add-result : goal.overflow_add-result
overflow_add-result c =
    let few = few_leave c.args.code.now c.args.graph.now c.args.profile.now c.args.range.now c.args.b c.requires.counts c.requires.held c.requires.inside in
    let copied = listed_value (block_words c.args.code.now c.args.graph.now c.args.profile.now true) (length c.args.code.now.blocks.items) c.args.b c.closed_terms-listed.result.copied c.args.counts.now.copied.items c.requires.blocks.listed.copied c.requires.inside c.closed_terms-listed.ensures.copied in
    let left = c.words_leaving-leaving.ensures in
    omega (arith, few, copied, left)

pub staying-requires-clause-starts : goal.staying-requires-clause-starts
staying-requires-clause-starts c =
    edge_starts_at c.args.profile.now.edges.items (length c.args.code.now.blocks.items) c.args.b c.args.counts.now.edges.items c.requires.blocks.listed.edges c.requires.inside

pub staying-requires-clause-small : goal.staying-requires-clause-small
staying-requires-clause-small c =
    few_stay c.args.code.now c.args.graph.now c.args.profile.now c.args.range.now c.args.b c.requires.counts c.requires.held c.requires.inside c.requires.stays

pub returns : goal.returns
returns c =
    open_are c.args.code.now c.args.graph.now c.args.profile.now c.args.counts.now c.args.range.now c.args.b c.words_leaving-leaving.result c.staying.result c.closed_terms-listed.result c.requires.blocks c.requires.inside c.requires.stays c.closed_terms-listed.ensures c.words_leaving-leaving.ensures c.staying.ensures
