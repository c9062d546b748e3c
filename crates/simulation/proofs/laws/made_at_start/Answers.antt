use Rattle.simulation.proofs.AtHome.{made_at_start}
use Rattle.simulation.proofs.laws.made_at_start.Goals as goal

pub returns : goal.returns
returns c = made_at_start
