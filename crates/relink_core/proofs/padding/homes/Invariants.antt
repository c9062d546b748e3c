use Rattle.std.proofs.Common.{◌≡◌, map, take}
use Rattle.relink_core.specs.Padding.{home_of}
use Rattle.relink_core.proofs.padding.homes.Given as goal

abbrev pub invariant-loop-stub : goal.invariant-loop-stub
invariant-loop-stub l = l.homes.items ≡ map home_of (take l.stub-index l.stubs)
