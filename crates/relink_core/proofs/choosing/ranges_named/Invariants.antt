use Rattle.std.proofs.Common.{◌≡◌, take}
use Rattle.relink_core.specs.Names.{ranges_named}
use Rattle.relink_core.proofs.choosing.ranges_named.Given as goal

abbrev pub invariant-loop-k : goal.invariant-loop-k
invariant-loop-k l = l.ranges.items ≡ ranges_named (take l.k l.names)
