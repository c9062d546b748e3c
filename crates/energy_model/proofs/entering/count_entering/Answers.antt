use Rattle.std.proofs.Common.{◌∙◌, length, arith}
use Rattle.energy_model.specs.Copied.{pending}
use Rattle.energy_model.proofs.EnteringLemmas.{entered_sum, came_fits, stays_within, is_entering}
use Rattle.energy_model.proofs.entering.count_entering.Goals as goal

pub pending_entered-pending-requires-clause-stopped : goal.pending_entered-pending-requires-clause-stopped
pending_entered-pending-requires-clause-stopped c =
    c.sums-sums.ensures.pending ∙ entered_sum c.args.tables.now.regions.now.border.items c.args.range.now (pending c.args.tables.now.code.now c.args.tables.now.profile.now) (length c.args.tables.now.code.now.blocks.items)

pub overflow_add-result : goal.overflow_add-result
overflow_add-result c =
    let fits = came_fits c.args.tables.now.code.now c.args.tables.now.regions.now c.args.tables.now.graph.now c.args.tables.now.profile.now c.args.range.now c.sums-sums.result c.pending_entered-pending.result c.requires.tables.code c.requires.tables.overlay c.sums-sums.ensures c.pending_entered-pending.ensures in
    omega (arith, fits)

pub overflow_sub-result : goal.overflow_sub-result
overflow_sub-result c =
    stays_within c.args.tables.now.code.now c.args.tables.now.regions.now c.args.tables.now.graph.now c.args.tables.now.profile.now c.args.range.now c.sums-sums.result c.pending_entered-pending.result c.requires.tables.overlay c.sums-sums.ensures c.pending_entered-pending.ensures

pub returns : goal.returns
returns c =
    is_entering c.args.tables.now.code.now c.args.tables.now.regions.now c.args.tables.now.graph.now c.args.tables.now.profile.now c.args.range.now c.sums-sums.result c.pending_entered-pending.result c.requires.tables.code c.requires.tables.overlay c.sums-sums.ensures c.pending_entered-pending.ensures
