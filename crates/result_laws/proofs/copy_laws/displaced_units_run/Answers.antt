use Rattle.result_laws.proofs.DisplacedUnits.{displaced_units_run}
use Rattle.result_laws.proofs.copy_laws.displaced_units_run.Goals as goal

pub returns : goal.returns
returns c = displaced_units_run
