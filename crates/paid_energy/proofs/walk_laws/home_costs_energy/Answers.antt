use Rattle.paid_energy.proofs.HomeCosts.{home_costs_energy}
use Rattle.paid_energy.proofs.walk_laws.home_costs_energy.Goals as goal

pub returns : goal.returns
returns c = home_costs_energy
