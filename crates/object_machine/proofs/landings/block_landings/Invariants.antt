use Rattle.object_machine.specs.Landings.{AreLandings}
use Rattle.object_machine.proofs.landings.block_landings.Given as goal

abbrev pub invariant-loop-k : goal.invariant-loop-k
invariant-loop-k l = AreLandings l.block_units.units.items l.block_units.starts.items l.landings.items
