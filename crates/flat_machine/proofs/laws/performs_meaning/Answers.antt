use Rattle.flat_machine.proofs.Runs.{performs_meaning}
use Rattle.flat_machine.proofs.laws.performs_meaning.Goals as goal

pub returns : goal.returns
returns c = performs_meaning
