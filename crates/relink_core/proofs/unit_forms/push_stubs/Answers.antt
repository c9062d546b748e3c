use Rattle.std.proofs.Common.{map, arith}
use Rattle.patch_code.specs.StubPlans.{serving_stub}
use Rattle.relink_core.specs.UnitSets.{StubForms}
use Rattle.relink_core.proofs.UnitSetLemmas.{gains_more}
use Rattle.relink_core.proofs.UnitSteps.{stub_there}
use Rattle.relink_core.proofs.unit_forms.push_stubs.Goals as goal

pub loop-k-preserved : goal.loop-k-preserved
loop-k-preserved c =
    gains_more c.loop-k.k (StubForms (map serving_stub c.args.stubs.now) c.args.places.now) _ _ _ c.loop-k.invariant
    (stub_there c.args.stubs.now c.args.places.now c.loop-k.k c.place_at.result c.index-stubs-k.result _ _ (omega (arith, c.loop-k-test.true, c.loop-k.auto.k-end)) c.index-stubs-k.is c.place_at.ensures c.in_ok-push_stub.ensures)
