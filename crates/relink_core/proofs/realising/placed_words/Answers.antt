use Rattle.std.proofs.Common.{sym, subst}
use Rattle.elf_reader.specs.File.{view_in}
use Rattle.relocator.specs.Placing.{chosen_slots, ArePlaces}
use Rattle.result_laws.specs.HomeLaws.{unnamed_in}
use Rattle.result_laws.specs.PlacementLaws.{regions_on}
use Rattle.relink_core.specs.Written.{AreSiteRegions}
use Rattle.relink_core.proofs.RealiseLemmas.{prepared, is_read, graph_of}
use Rattle.relink_core.proofs.RealisedChoice.{has_places}
use Rattle.relink_core.proofs.UnitWords.{units_stand}
use Rattle.relink_core.proofs.realising.placed_words.Goals as goal

pub site_regions-requires-clause-stand : goal.site_regions-requires-clause-stand
site_regions-requires-clause-stand c =
    let (file, board, is) = c.requires.analysis in
    let a = c.args.a.now in
    (view_in file, unnamed_in file board a.graph, units_stand file board a.graph a.code (prepared file board a is).accepted is.code)

pub site_words-requires-clause-read : goal.site_words-requires-clause-read
site_words-requires-clause-read c =
    let (file, board, is) = c.requires.analysis in
    is_read file board c.args.a.now is

pub site_words-requires-clause-graph : goal.site_words-requires-clause-graph
site_words-requires-clause-graph c =
    let (file, board, is) = c.requires.analysis in
    (board, graph_of file board c.args.a.now is)

pub site_words-requires-clause-places : goal.site_words-requires-clause-places
site_words-requires-clause-places c =
    let (file, board, is) = c.requires.analysis in
    let (own, p, choice, t, taken, on_side, same) = c.requires.taken in
    let a = c.args.a.now in
    let w = c.args.regions.now in
    has_places file board a w choice.on (chosen_slots own p choice) c.args.places.now c.deref.result.now is on_side
    (subst (ArePlaces a.graph (regions_on choice.on a.regions) (chosen_slots own p choice)) same taken.laid)
    (subst (AreSiteRegions a.code w.of_block.now a.graph) (sym c.deref.ensures.value) c.in_ok-region_at.ensures)
