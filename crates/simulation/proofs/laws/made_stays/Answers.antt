use Rattle.simulation.proofs.AtHome.{made_stays}
use Rattle.simulation.proofs.laws.made_stays.Goals as goal

pub returns : goal.returns
returns c = made_stays
