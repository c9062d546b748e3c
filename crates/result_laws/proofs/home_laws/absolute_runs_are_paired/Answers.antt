use Rattle.result_laws.proofs.Absolute.{absolute_runs_are_paired}
use Rattle.result_laws.proofs.home_laws.absolute_runs_are_paired.Goals as goal

pub returns : goal.returns
returns c = absolute_runs_are_paired
