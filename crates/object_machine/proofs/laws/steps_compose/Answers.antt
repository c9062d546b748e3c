use Rattle.object_machine.proofs.RunLemmas.{steps_joined}
use Rattle.object_machine.proofs.laws.steps_compose.Goals as goal

pub returns : goal.returns
returns c = steps_joined
