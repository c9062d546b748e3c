use Rattle.result_laws.proofs.Changed.{switches_change}
use Rattle.result_laws.proofs.arrival_laws.switches_change.Goals as goal

pub returns : goal.returns
returns c = switches_change
