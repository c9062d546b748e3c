use Rattle.patch_code.proofs.Counts.{routine_count_so}
use Rattle.patch_code.proofs.switch_laws.routine_count.Goals as goal

pub returns : goal.returns
returns c = routine_count_so
