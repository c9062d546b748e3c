use Rattle.points_to.proofs.EdgeLemmas.{adds_more, adds_first}
use Rattle.points_to.proofs.edges.push_places.Goals as goal

pub loop-y-init : goal.loop-y-init
loop-y-init c = adds_first _ _

pub loop-y-preserved : goal.loop-y-preserved
loop-y-preserved c = adds_more c.loop-y.y _ _ _ _ c.loop-y.invariant c.in_ok-push_place.ensures
