use Rattle.patch_code.proofs.PlainRuns.{plain_stub_runs_so}
use Rattle.patch_code.proofs.stub_laws.plain_stub_runs.Goals as goal

pub returns : goal.returns
returns c = plain_stub_runs_so
