use Rattle.compare_runner.proofs.HeadlineLemmas as headline
use Rattle.compare_runner.proofs.laws.kept_runs_step_by_step.Goals as goal

pub returns : goal.returns
returns c = headline.kept_runs_step_by_step c.unmoved_file_keeps.ensures
