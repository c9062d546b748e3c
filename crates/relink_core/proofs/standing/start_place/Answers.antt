use Rattle.std.proofs.Common.{arith}
use Rattle.relink_core.proofs.standing.start_place.Goals as goal

pub first_place-requires-clause-object : goal.first_place-requires-clause-object
first_place-requires-clause-object c =
    let below = c.requires.below in
    let objects = c.requires.starts.objects in
    omega (arith, below, objects)

pub first_place-requires-clause-row : goal.first_place-requires-clause-row
first_place-requires-clause-row c = c.requires.starts.rows _ c.requires.below
