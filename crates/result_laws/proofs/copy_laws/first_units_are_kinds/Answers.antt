use Rattle.result_laws.proofs.FirstUnits.{first_units_are_kinds}
use Rattle.result_laws.proofs.copy_laws.first_units_are_kinds.Goals as goal

pub returns : goal.returns
returns c = first_units_are_kinds
