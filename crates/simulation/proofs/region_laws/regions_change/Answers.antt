use Rattle.simulation.proofs.Stays.{regions_change}
use Rattle.simulation.proofs.region_laws.regions_change.Goals as goal

pub returns : goal.returns
returns c = regions_change
