use Rattle.result_laws.proofs.JobsFit.{jobs_fit_so}
use Rattle.result_laws.proofs.job_laws.jobs_fit.Goals as goal

pub returns : goal.returns
returns c = jobs_fit_so
