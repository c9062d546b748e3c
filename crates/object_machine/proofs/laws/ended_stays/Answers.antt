use Rattle.object_machine.proofs.RunLemmas.{ended_stays, ended_steps, ended_any_steps}
use Rattle.object_machine.proofs.laws.ended_stays.Goals as goal

pub returns : goal.returns
returns c = record { step = ended_stays; steps = ended_steps; any_steps = ended_any_steps }
