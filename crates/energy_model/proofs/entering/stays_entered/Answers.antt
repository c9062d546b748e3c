use Rattle.std.proofs.Common.{◌∙◌, sym, length}
use Rattle.energy_model.proofs.PieceLemmas.{edge_starts_at}
use Rattle.energy_model.proofs.EnteringLemmas.{few_stay}
use Rattle.energy_model.proofs.entering.stays_entered.Goals as goal

pub staying-requires-clause-starts : goal.staying-requires-clause-starts
staying-requires-clause-starts c =
    edge_starts_at c.args.tables.now.profile.now.edges.items (length c.args.tables.now.code.now.blocks.items) c.args.a c.args.tables.now.counts.now.edges.items c.requires.tables.blocks.listed.edges c.requires.inside

pub staying-requires-clause-small : goal.staying-requires-clause-small
staying-requires-clause-small c =
    few_stay c.args.tables.now.code.now c.args.tables.now.regions.now c.args.tables.now.graph.now c.args.tables.now.profile.now c.args.range.now c.args.a c.requires.tables.code c.requires.tables.overlay c.requires.held c.requires.inside (sym c.block_may_stay.ensures ∙ c.if-block_may_stay.true)
