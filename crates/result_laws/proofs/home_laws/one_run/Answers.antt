use Rattle.result_laws.proofs.Single.{one_run}
use Rattle.result_laws.proofs.home_laws.one_run.Goals as goal

pub returns : goal.returns
returns c = one_run
