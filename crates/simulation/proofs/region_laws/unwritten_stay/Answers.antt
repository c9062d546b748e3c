use Rattle.simulation.proofs.Unwritten.{unwritten_stay}
use Rattle.simulation.proofs.region_laws.unwritten_stay.Goals as goal

pub returns : goal.returns
returns c = unwritten_stay
