use Rattle.std.proofs.Common.{ap}
use Rattle.std.specs.Prelude.{option_map}
use Rattle.placement_candidates.specs.FullViews.{plain_full, plain_full_side}
use Rattle.placement_candidates.proofs.StatedLemmas.{can_count, full_stated}
use Rattle.placement_candidates.proofs.counting.full.Goals as goal

pub full_of-requires : goal.full_of-requires
full_of-requires c =
    let (view, (transitions, given)) = c.requires.run in
    can_count c.one_instruction.ensures view c.args.board.now c.args.graph.now c.args.code.now c.args.regions.now c.args.profile.now c.args.pieces.now transitions given c.requires.pieces

pub returns-in-Ok : goal.returns-in-Ok
returns-in-Ok c = λ view transitions given.
    full_stated c.one_instruction.ensures view c.args.board.now c.args.graph.now c.args.code.now c.args.regions.now c.args.profile.now c.args.pieces.now transitions (plain_full c.in-Ok.full) given c.requires.pieces
    c.in-Ok.ensures.base c.in-Ok.ensures.off (ap (option_map plain_full_side) c.in-Ok.ensures.on)
