use Rattle.compare_runner.proofs.KeptLemmas as kept
use Rattle.compare_runner.proofs.laws.kept_runs_go_on.Goals as goal

pub returns : goal.returns
returns c = kept.kept_runs_go_on
