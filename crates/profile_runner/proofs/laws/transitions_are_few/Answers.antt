use Rattle.profile_runner.proofs.RunLemmas.{transitions_few}
use Rattle.profile_runner.proofs.laws.transitions_are_few.Goals as goal

pub returns : goal.returns
returns c p n s t transitions run = transitions_few p n s t transitions run
