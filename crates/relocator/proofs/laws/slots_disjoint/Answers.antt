use Rattle.relocator.specs.Slots.{items_of}
use Rattle.relocator.proofs.SlotLemmas.{slots_disjoint}
use Rattle.relocator.proofs.laws.slots_disjoint.Goals as goal

pub returns : goal.returns
returns c = λ board p choice region. slots_disjoint board.spm.base (items_of p choice) region
