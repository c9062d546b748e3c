use Rattle.relocator.proofs.SpaceLemmas.{whole_side_has_space}
use Rattle.relocator.proofs.laws.whole_side_has_space.Goals as goal

pub returns : goal.returns
returns c = whole_side_has_space
