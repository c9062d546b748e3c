use Rattle.std.proofs.Common.{map, slice_index_or}
use Rattle.placement_candidates.specs.Parts.{plain_part}
use Rattle.placement_candidates.proofs.SumLemmas.{first_is}
use Rattle.placement_candidates.proofs.MixLemmas.{off_can_mix}
use Rattle.placement_candidates.proofs.mixing.mix.Goals as goal

pub mixed_side-requires : goal.mixed_side-requires
mixed_side-requires c =
    off_can_mix (map plain_part c.args.parts.now) (plain_part (slice_index_or c.args.parts.now 0 c.index-parts-0.result)) c.requires (first_is c.args.parts.now c.index-parts-0.result c.requires.some)
