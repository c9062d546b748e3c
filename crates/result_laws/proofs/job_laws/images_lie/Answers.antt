use Rattle.result_laws.proofs.PatchHomes.{images_lie_so}
use Rattle.result_laws.proofs.job_laws.images_lie.Goals as goal

pub returns : goal.returns
returns c = images_lie_so
