use Rattle.simulation.proofs.Stays.{places_decide}
use Rattle.simulation.proofs.region_laws.places_decide.Goals as goal

pub returns : goal.returns
returns c = places_decide
