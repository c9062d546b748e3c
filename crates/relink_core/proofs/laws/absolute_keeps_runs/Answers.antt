use Rattle.relink_core.proofs.KeepsLemmas.{absolute_keeps_runs}
use Rattle.relink_core.proofs.laws.absolute_keeps_runs.Goals as goal

pub returns : goal.returns
returns c = absolute_keeps_runs
