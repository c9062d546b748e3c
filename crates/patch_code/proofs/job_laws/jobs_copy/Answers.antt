use Rattle.patch_code.proofs.ByteLemmas.{jobs_copy_so}
use Rattle.patch_code.proofs.job_laws.jobs_copy.Goals as goal

pub returns : goal.returns
returns c = jobs_copy_so
