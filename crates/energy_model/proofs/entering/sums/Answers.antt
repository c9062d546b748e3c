use Rattle.std.proofs.Common.{length}
use Rattle.energy_model.proofs.EnteringLemmas.{none_entered}
use Rattle.energy_model.proofs.entering.sums.Goals as goal

pub returns-else-is_entered : goal.returns-else-is_entered
returns-else-is_entered c =
    none_entered c.args.tables.now.code.now c.args.tables.now.graph.now c.args.tables.now.profile.now c.args.tables.now.regions.now.border.items c.args.range.now (length c.args.tables.now.code.now.blocks.items) (c.is_entered.ensures c.if-is_entered.false)
