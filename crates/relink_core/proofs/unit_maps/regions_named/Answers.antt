use Rattle.relink_core.specs.UnitMaps.{region_named}
use Rattle.relink_core.proofs.NameLemmas.{some_more}
use Rattle.relink_core.proofs.unit_maps.regions_named.Goals as goal

pub loop-k-preserved : goal.loop-k-preserved
loop-k-preserved c =
    some_more region_named c.args.names.now c.loop-k.regions.items c.push_region.new.regions.items c.loop-k.k _ c.loop-k-test.true c.loop-k.invariant c.in_ok-push_region.ensures
