use Rattle.relink_core.proofs.UnitMapsMade.{home_map}
use Rattle.relink_core.proofs.unit_maps.home_units.Goals as goal

pub returns : goal.returns
returns c =
    home_map c.args.code.now c.new-units.result.items _ c.arrange.new.units.items c.new-units.ensures.items c.in_ok-push_homes.ensures c.arrange.ensures.same c.arrange.ensures.ordered
