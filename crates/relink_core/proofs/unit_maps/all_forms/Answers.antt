use Rattle.relink_core.proofs.UnitMapsMade.{collected_units}
use Rattle.relink_core.proofs.unit_maps.all_forms.Goals as goal

pub returns : goal.returns
returns c =
    collected_units c.args.from.now c.new-units.result.items _ _ _ c.arrange.new.units.items c.new-units.ensures.items
    c.in_ok-push_homes.ensures c.in_ok-push_copies.ensures c.in_ok-push_stubs.ensures c.arrange.ensures.same c.arrange.ensures.ordered
