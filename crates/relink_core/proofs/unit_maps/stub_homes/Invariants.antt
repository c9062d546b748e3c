use Rattle.std.proofs.Common.{◌≡◌, map, take}
use Rattle.relink_core.specs.Padding.{home_of}
use Rattle.relink_core.proofs.unit_maps.stub_homes.Given as goal

abbrev pub invariant-loop-k : goal.invariant-loop-k
invariant-loop-k l = l.homes.items ≡ map home_of (take l.k l.stubs)
