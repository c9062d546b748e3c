use Rattle.patch_code.proofs.Coded.{routine_of_jobs_so}
use Rattle.patch_code.proofs.switch_laws.routine_of_jobs.Goals as goal

pub returns : goal.returns
returns c = routine_of_jobs_so
