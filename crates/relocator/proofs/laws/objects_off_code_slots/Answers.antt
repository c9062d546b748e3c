use Rattle.relocator.proofs.FitLemmas.{objects_off_code_slots}
use Rattle.relocator.proofs.laws.objects_off_code_slots.Goals as goal

pub returns : goal.returns
returns c = objects_off_code_slots
