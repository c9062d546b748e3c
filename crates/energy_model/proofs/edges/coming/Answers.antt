use Rattle.energy_model.proofs.EdgeLemmas.{room_there}
use Rattle.energy_model.proofs.edges.coming.Goals as goal

pub raise-requires-clause-room : goal.raise-requires-clause-room
raise-requires-clause-room c =
    room_there c.args.edges.now c.args.blocks c.loop-j.j c.loop-j.counts.items c.loop-j.invariant c.requires.within c.requires.few c.loop-j-test.true
