use Rattle.object_machine.proofs.OutputLemmas.{steps_extend}
use Rattle.object_machine.proofs.laws.output_grows.Goals as goal

pub returns : goal.returns
returns c = steps_extend
