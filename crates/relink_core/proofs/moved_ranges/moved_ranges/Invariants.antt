use Rattle.std.proofs.Common.{take}
use Rattle.relink_core.specs.MovedRanges.{HaveRanges}
use Rattle.relink_core.proofs.moved_ranges.moved_ranges.Given as goal

abbrev pub invariant-loop-object : goal.invariant-loop-object
invariant-loop-object l = HaveRanges l.graph l.places (take l.object-index l.objects) l.ranges
