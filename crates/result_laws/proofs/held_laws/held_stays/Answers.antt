use Rattle.result_laws.proofs.Held.{held_stays}
use Rattle.result_laws.proofs.held_laws.held_stays.Goals as goal

pub returns : goal.returns
returns c = held_stays
