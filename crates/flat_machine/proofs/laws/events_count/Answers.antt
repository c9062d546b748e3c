use Rattle.flat_machine.proofs.Runs.{steps_of_events, events_of_steps}
use Rattle.flat_machine.proofs.laws.events_count.Goals as goal

pub returns : goal.returns
returns c = record { steps = steps_of_events; events = events_of_steps }
