use Rattle.simulation.proofs.AtHome.{runs_at_home}
use Rattle.simulation.proofs.laws.runs_at_home.Goals as goal

pub returns : goal.returns
returns c = runs_at_home
