use Rattle.relink_core.proofs.Lists.{ArePlaced}
use Rattle.relink_core.proofs.regions.image_places.Given as goal

abbrev pub invariant-loop-k : goal.invariant-loop-k
invariant-loop-k l = ArePlaced l.first l.copies l.k l.places.items l.at
