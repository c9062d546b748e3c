use Rattle.std.proofs.Common.{◌≡◌, take}
use Rattle.relink_core.specs.Names.{objects_named}
use Rattle.relink_core.proofs.choosing.objects_named.Given as goal

abbrev pub invariant-loop-k : goal.invariant-loop-k
invariant-loop-k l = l.objects.items ≡ objects_named (take l.k l.names)
