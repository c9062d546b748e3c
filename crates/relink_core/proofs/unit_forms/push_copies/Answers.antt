use Rattle.std.proofs.Common.{arith}
use Rattle.relink_core.specs.UnitSets.{CopyForms}
use Rattle.relink_core.proofs.UnitSetLemmas.{gains_more}
use Rattle.relink_core.proofs.UnitSteps.{one_copy}
use Rattle.relink_core.proofs.unit_forms.push_copies.Goals as goal

pub loop-n-preserved : goal.loop-n-preserved
loop-n-preserved c =
    let s = c.args.source.now in
    gains_more c.loop-n.n (CopyForms s c.args.copies.now c.args.regions.now) _ _ _ c.loop-n.invariant
    (one_copy s c.args.copies.now c.args.regions.now c.loop-n.n c.region_at.result c.index-copies-n.result _ _ (omega (arith, c.loop-n-test.true, c.loop-n.auto.n-end)) c.index-copies-n.is c.region_at.ensures c.in_ok-push_copy.ensures)
