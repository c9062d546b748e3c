use Rattle.flat_machine.proofs.Outputs.{steps_extend}
use Rattle.flat_machine.proofs.laws.output_grows.Goals as goal

pub returns : goal.returns
returns c = steps_extend
