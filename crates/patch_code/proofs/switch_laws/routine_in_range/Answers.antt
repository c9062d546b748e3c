use Rattle.patch_code.proofs.Ranges.{routine_in_range_so}
use Rattle.patch_code.proofs.switch_laws.routine_in_range.Goals as goal

pub returns : goal.returns
returns c = routine_in_range_so
