use Rattle.std.proofs.Common.{map, option_map, slice_index_or, ap}
use Rattle.placement_candidates.specs.FullViews.{plain_full_side}
use Rattle.placement_candidates.specs.Parts.{plain_part}
use Rattle.placement_candidates.proofs.SumLemmas.{first_is}
use Rattle.placement_candidates.proofs.MixLemmas.{on_can_mix, on_is, on_none}
use Rattle.placement_candidates.proofs.mixing.mixed_on.Goals as goal

pub mixed_side-requires : goal.mixed_side-requires
mixed_side-requires c =
    on_can_mix (map plain_part c.args.parts.now) (plain_part (slice_index_or c.args.parts.now 0 c.index-parts-0.result)) c.requires (first_is c.args.parts.now c.index-parts-0.result c.requires.some)
    (plain_full_side c.in-Some.like) (ap (option_map plain_full_side) c.in-Some.is)

pub returns-in-None : goal.returns-in-None
returns-in-None c =
    on_none (map plain_part c.args.parts.now) (plain_part (slice_index_or c.args.parts.now 0 c.index-parts-0.result)) c.requires (first_is c.args.parts.now c.index-parts-0.result c.requires.some)
    (ap (option_map plain_full_side) c.in-None.is)

pub returns-in_ok-side-in-Some : goal.returns-in_ok-side-in-Some
returns-in_ok-side-in-Some c =
    on_is (map plain_part c.args.parts.now) (plain_part (slice_index_or c.args.parts.now 0 c.index-parts-0.result)) c.requires (first_is c.args.parts.now c.index-parts-0.result c.requires.some)
    (plain_full_side c.in-Some.like) (plain_full_side c.in_ok-side-in-Some.side) (ap (option_map plain_full_side) c.in-Some.is) c.in_ok-side-in-Some.ensures
