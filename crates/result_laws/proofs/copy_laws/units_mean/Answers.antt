use Rattle.result_laws.proofs.CopyUnits.{units_mean}
use Rattle.result_laws.proofs.copy_laws.units_mean.Goals as goal

pub returns : goal.returns
returns c = units_mean
