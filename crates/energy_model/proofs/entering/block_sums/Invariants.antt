use Rattle.energy_model.specs.Entering.{AreEntering}
use Rattle.energy_model.proofs.entering.block_sums.Given as goal

abbrev pub invariant-loop-b : goal.invariant-loop-b
invariant-loop-b l = AreEntering l.tables.code.now l.tables.graph.now l.tables.profile.now l.tables.regions.now.border.items l.range l.b l.sums
