use Rattle.paid_energy.proofs.InwardLemmas.{inward_counted}
use Rattle.paid_energy.proofs.laws.inward_is_counted.Goals as goal

pub returns : goal.returns
returns c = inward_counted c.one_instruction.ensures
