use Rattle.loaded_file.proofs.WordLemmas.{same_view}
use Rattle.placement_programme.specs.Views.{plain_programme, plain_choice}
use Rattle.relink_core.specs.Placed.{taken_of}
use Rattle.result_map.proofs.MapLemmas.{maps_made}
use Rattle.result_map.proofs.mapping.made_map.Goals as goal

pub unit_map-requires : goal.unit_map-requires
unit_map-requires c =
    let file = c.requires.opened.0 in
    let o = c.args.opened.now in
    (file, o.board, taken_of (plain_programme c.args.programme.now) (plain_choice c.args.choice.now), (c.in_ok-made.ensures.made file c.requires.opened.1).forms)

pub returns-in-Ok : goal.returns-in-Ok
returns-in-Ok c file is =
    let o = c.args.opened.now in
    let p = plain_programme c.args.programme.now in
    let choice = plain_choice c.args.choice.now in
    let r = c.in_ok-made.made in
    let forms = (c.in_ok-made.ensures.made file is).forms in
    maps_made file o p choice r c.in_ok-units.units.items (c.in_ok-units.ensures file o.board (taken_of p choice) forms) c.in_ok-made.ensures.stands.at forms _ _ _ _ c.in-Ok.text.items
    (same_view file o.analysis.view is.is_file) c.deref.ensures.value c.region_count.ensures.is c.deref-2.ensures.value c.in-Ok.ensures
