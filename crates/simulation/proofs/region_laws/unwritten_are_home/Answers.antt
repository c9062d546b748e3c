use Rattle.simulation.proofs.Homes.{unwritten_are_home}
use Rattle.simulation.proofs.region_laws.unwritten_are_home.Goals as goal

pub returns : goal.returns
returns c = unwritten_are_home
