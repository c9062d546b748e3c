use Rattle.result_laws.proofs.Held.{one_unit}
use Rattle.result_laws.proofs.held_laws.one_unit.Goals as goal

pub returns : goal.returns
returns c = one_unit
