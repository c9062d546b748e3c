use Rattle.result_laws.proofs.CopiedUnits.{copied_units_run}
use Rattle.result_laws.proofs.copy_laws.copied_units_run.Goals as goal

pub returns : goal.returns
returns c = copied_units_run
