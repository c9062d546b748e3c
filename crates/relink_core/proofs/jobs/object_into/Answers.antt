use Rattle.std.proofs.Common.{arith}
use Rattle.relink_core.proofs.PlaceRows.{row_long}
use Rattle.relink_core.proofs.jobs.object_into.Goals as goal

pub index-requires-2 : goal.index-requires-2
index-requires-2 c =
    let long = c.requires.can.rows c.args.object c.requires.below in
    let inside = c.requires.region in
    let objects = c.requires.can.objects in
    let below = c.requires.below in
    row_long c.args.items.now.places.now c.args.object c.args.region c.index.result.now (omega (arith, objects, below)) c.index.ensures (omega (arith, long, inside))
