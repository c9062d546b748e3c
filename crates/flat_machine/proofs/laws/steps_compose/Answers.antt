use Rattle.flat_machine.proofs.Runs.{steps_joined, steps_cut}
use Rattle.flat_machine.proofs.laws.steps_compose.Goals as goal

pub returns : goal.returns
returns c = record { joined = steps_joined; cut = steps_cut }
