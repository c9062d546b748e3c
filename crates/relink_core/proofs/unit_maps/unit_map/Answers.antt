use Rattle.std.proofs.Common.{Option, subst}
use Rattle.relink_core.specs.MadeResults.{MadeForms}
use Rattle.relink_core.specs.UnitMaps.{hands_on}
use Rattle.relink_core.specs.declared.realising.MovedParts.{MovedParts}
use Rattle.relink_core.proofs.unit_maps.unit_map.Goals as goal

pub moved_units-requires : goal.moved_units-requires
moved_units-requires c =
    let (file, board, taken, made) = c.requires in
    (file, board, taken, subst (λ (m : Option MovedParts). MadeForms file board c.args.a.now taken c.args.made.now m) c.in-Some.is made)

pub returns-in-Ok : goal.returns-in-Ok
returns-in-Ok c = λ file board taken made.
    c.in-Ok.ensures file board taken (subst (λ (m : Option MovedParts). MadeForms file board c.args.a.now taken c.args.made.now m) c.in-Some.is made)

pub returns-in-Ok-home_units : goal.returns-in-Ok-home_units
returns-in-Ok-home_units c = λ file board taken made.
    let none = subst (λ (m : Option MovedParts). MadeForms file board c.args.a.now taken c.args.made.now m) c.in-None.is made in
    hands_on none.0 none.1 none.2 c.in-Ok-home_units.ensures
