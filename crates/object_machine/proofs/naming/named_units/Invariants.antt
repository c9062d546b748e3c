use Rattle.std.proofs.Common.{ℕ, List}
use Rattle.object_machine.specs.Landings.{AreLandings}
use Rattle.object_machine.specs.Ops.{AreNamed}
use Rattle.object_machine.proofs.naming.named_units.Given as goal

-- the first units have their names
abbrev pub invariant-loop-k : goal.invariant-loop-k
invariant-loop-k l = (starts : List ℕ) → AreLandings l.units.items starts l.landings.items → AreNamed l.units.items starts l.k l.ops.items
