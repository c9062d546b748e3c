use Rattle.profile_runner.proofs.RunLemmas.{transitions_steps}
use Rattle.profile_runner.proofs.laws.transitions_are_steps.Goals as goal

pub returns : goal.returns
returns c p n s t transitions run = transitions_steps p n s t transitions run
