use Rattle.relink_core.specs.UnitSets.{HomeForm}
use Rattle.relink_core.proofs.UnitSetLemmas.{gains_more}
use Rattle.relink_core.proofs.unit_forms.push_block.Goals as goal

pub loop-k-preserved : goal.loop-k-preserved
loop-k-preserved c =
    gains_more c.loop-k.k (HomeForm c.args.block.now.units.items c.args.padded) _ _ _ c.loop-k.invariant c.in_ok-push_home.ensures
