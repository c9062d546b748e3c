use Rattle.placement_programme.specs.Views.{plain_programme, plain_choice}
use Rattle.relink_core.specs.Placed.{taken_of}
use Rattle.relink_core.proofs.unit_maps.realise_units.Goals as goal

pub unit_map-requires : goal.unit_map-requires
unit_map-requires c =
    let (file, is) = c.requires.analysis in
    (file, c.args.board.now, taken_of (plain_programme c.args.p.now) (plain_choice c.args.c.now), (c.in_ok-made.ensures.made file is).forms)

pub returns-in-Ok : goal.returns-in-Ok
returns-in-Ok c = λ file is.
    c.in-Ok.ensures file c.args.board.now (taken_of (plain_programme c.args.p.now) (plain_choice c.args.c.now)) (c.in_ok-made.ensures.made file is).forms
