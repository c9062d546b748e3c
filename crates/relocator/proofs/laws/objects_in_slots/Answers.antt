use Rattle.relocator.proofs.OwnLemmas.{objects_in_slots}
use Rattle.relocator.proofs.laws.objects_in_slots.Goals as goal

pub returns : goal.returns
returns c = objects_in_slots
