use Rattle.object_machine.specs.Landings.{AreLandings}
use Rattle.object_machine.proofs.landings.reached_landings.Given as goal

abbrev pub invariant-loop-k : goal.invariant-loop-k
invariant-loop-k l = AreLandings l.block_units.units.items l.reached.items l.landings.items
