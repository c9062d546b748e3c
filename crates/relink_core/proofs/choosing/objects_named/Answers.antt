use Rattle.relink_core.specs.Names.{object_named}
use Rattle.relink_core.proofs.NameLemmas.{some_more}
use Rattle.relink_core.proofs.choosing.objects_named.Goals as goal

pub loop-k-preserved : goal.loop-k-preserved
loop-k-preserved c =
    some_more object_named c.args.names.now c.loop-k.objects.items c.push_object.new.objects.items c.loop-k.k _ c.loop-k-test.true c.loop-k.invariant c.in_ok-push_object.ensures
