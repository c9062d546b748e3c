use Rattle.paid_energy.proofs.RunLemmas.{runs_within}
use Rattle.paid_energy.proofs.laws.ended_runs_for.Goals as goal

pub returns : goal.returns
returns c = runs_within
