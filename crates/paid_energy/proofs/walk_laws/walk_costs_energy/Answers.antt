use Rattle.paid_energy.proofs.WalkSums.{walk_costs_energy}
use Rattle.paid_energy.proofs.walk_laws.walk_costs_energy.Goals as goal

pub returns : goal.returns
returns c = walk_costs_energy
