use Rattle.result_laws.proofs.Held.{held_at_start}
use Rattle.result_laws.proofs.held_laws.held_at_start.Goals as goal

pub returns : goal.returns
returns c = held_at_start
