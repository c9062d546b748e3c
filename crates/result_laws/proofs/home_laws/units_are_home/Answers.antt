use Rattle.result_laws.proofs.HomeUnits.{units_are_home}
use Rattle.result_laws.proofs.home_laws.units_are_home.Goals as goal

pub returns : goal.returns
returns c = units_are_home
