use Rattle.simulation.proofs.AtHome.{units_at_home}
use Rattle.simulation.proofs.laws.units_at_home.Goals as goal

pub returns : goal.returns
returns c = units_at_home
