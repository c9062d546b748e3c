use Rattle.result_laws.proofs.CopyUnits.{units_are_kinds}
use Rattle.result_laws.proofs.copy_laws.units_are_kinds.Goals as goal

pub returns : goal.returns
returns c = units_are_kinds
