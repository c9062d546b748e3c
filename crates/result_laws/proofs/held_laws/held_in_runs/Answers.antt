use Rattle.result_laws.proofs.Held.{held_in_runs}
use Rattle.result_laws.proofs.held_laws.held_in_runs.Goals as goal

pub returns : goal.returns
returns c = held_in_runs
