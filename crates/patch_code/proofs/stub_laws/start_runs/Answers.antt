use Rattle.patch_code.proofs.Starting.{start_runs_so}
use Rattle.patch_code.proofs.stub_laws.start_runs.Goals as goal

pub returns : goal.returns
returns c = start_runs_so
