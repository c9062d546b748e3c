use Rattle.placement_programme.proofs.NumberLemmas.{numbers_ascend}
use Rattle.placement_programme.proofs.laws.numbers_ascend.Goals as goal

pub returns : goal.returns
returns c = numbers_ascend
