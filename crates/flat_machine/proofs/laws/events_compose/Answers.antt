use Rattle.flat_machine.proofs.Runs.{does_joined, does_cut}
use Rattle.flat_machine.proofs.laws.events_compose.Goals as goal

pub returns : goal.returns
returns c = record { joined = does_joined; cut = does_cut }
