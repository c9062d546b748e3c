use Rattle.result_laws.proofs.PatchJobs.{jobs_spare_so}
use Rattle.result_laws.proofs.job_laws.jobs_spare.Goals as goal

pub returns : goal.returns
returns c = jobs_spare_so
