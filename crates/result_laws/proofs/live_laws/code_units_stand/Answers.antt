use Rattle.result_laws.proofs.CodeUnits.{code_units_stand}
use Rattle.result_laws.proofs.live_laws.code_units_stand.Goals as goal

pub returns : goal.returns
returns c = code_units_stand
