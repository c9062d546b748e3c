use Rattle.flat_machine.proofs.Runs.{ended_state, ended_event, ended_steps, ended_any_steps}
use Rattle.flat_machine.proofs.laws.ended_stays.Goals as goal

pub returns : goal.returns
returns c = record { state = ended_state; event = ended_event; steps = ended_steps; any_steps = ended_any_steps }
