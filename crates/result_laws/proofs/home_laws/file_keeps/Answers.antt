use Rattle.result_laws.proofs.HomeUnits.{file_keeps}
use Rattle.result_laws.proofs.home_laws.file_keeps.Goals as goal

pub returns : goal.returns
returns c = file_keeps
