use Rattle.relocator.proofs.PlaceLemmas.{choice_fits, slots_within}
use Rattle.relocator.specs.Slots.{items_of}
use Rattle.relocator.proofs.laws.slots_inside.Goals as goal

pub returns : goal.returns
returns c = λ g regions board p choice grain can. slots_within g regions board.spm (items_of p choice) (choice_fits g regions board p choice grain can)
