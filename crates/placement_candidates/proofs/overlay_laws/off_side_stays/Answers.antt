use Rattle.std.proofs.Common.{refl}
use Rattle.placement_candidates.proofs.overlay_laws.off_side_stays.Goals as goal

pub returns : goal.returns
returns c g code t board objects pieces transitions = refl
