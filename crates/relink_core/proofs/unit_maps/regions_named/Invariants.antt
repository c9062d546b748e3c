use Rattle.std.proofs.Common.{◌≡◌, take}
use Rattle.relink_core.specs.UnitMaps.{regions_named}
use Rattle.relink_core.proofs.unit_maps.regions_named.Given as goal

abbrev pub invariant-loop-k : goal.invariant-loop-k
invariant-loop-k l = l.regions.items ≡ regions_named (take l.k l.names)
