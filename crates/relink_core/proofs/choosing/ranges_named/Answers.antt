use Rattle.relink_core.specs.Names.{range_named}
use Rattle.relink_core.proofs.NameLemmas.{some_more}
use Rattle.relink_core.proofs.choosing.ranges_named.Goals as goal

pub loop-k-preserved : goal.loop-k-preserved
loop-k-preserved c =
    some_more range_named c.args.names.now c.loop-k.ranges.items c.push_range.new.ranges.items c.loop-k.k _ c.loop-k-test.true c.loop-k.invariant c.in_ok-push_range.ensures
