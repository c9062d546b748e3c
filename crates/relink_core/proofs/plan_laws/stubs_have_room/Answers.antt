use Rattle.relink_core.proofs.Room.{stubs_have_room_so}
use Rattle.relink_core.proofs.plan_laws.stubs_have_room.Goals as goal

pub returns : goal.returns
returns c = stubs_have_room_so
