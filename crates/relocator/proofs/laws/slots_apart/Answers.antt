use Rattle.relocator.proofs.OwnLemmas.{slots_apart}
use Rattle.relocator.proofs.laws.slots_apart.Goals as goal

pub returns : goal.returns
returns c = slots_apart
