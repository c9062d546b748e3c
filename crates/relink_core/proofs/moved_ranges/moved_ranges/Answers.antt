use Rattle.std.proofs.Common.{arith}
use Rattle.relink_core.proofs.MovedRangeLemmas.{ranges_more}
use Rattle.relink_core.proofs.moved_ranges.moved_ranges.Goals as goal

pub loop-object-preserved : goal.loop-object-preserved
loop-object-preserved c = ranges_more c.args.graph.now c.args.places.now c.args.objects.now c.loop-object.object-index c.loop-object.ranges c.add_range.new.ranges (omega arith) c.loop-object.invariant c.in_ok-add_range.ensures
