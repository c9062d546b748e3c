use Rattle.relink_core.proofs.UnitSteps.{one_unit}
use Rattle.relink_core.proofs.unit_forms.push_unit.Goals as goal

pub returns-in-Ok : goal.returns-in-Ok
returns-in-Ok c =
    one_unit c.args.block.now.units.items c.args.k c.index.result.now c.args.at c.args.region c.args.units.now.items c.push_form.new.units.items c.requires c.index.ensures c.in-Ok.ensures
