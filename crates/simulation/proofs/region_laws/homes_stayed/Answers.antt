use Rattle.simulation.proofs.Homes.{homes_stayed}
use Rattle.simulation.proofs.region_laws.homes_stayed.Goals as goal

pub returns : goal.returns
returns c = homes_stayed
