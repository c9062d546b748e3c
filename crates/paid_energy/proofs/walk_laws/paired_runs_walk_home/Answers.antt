use Rattle.paid_energy.proofs.HomeWalking.{paired_runs_walk_home}
use Rattle.paid_energy.proofs.walk_laws.paired_runs_walk_home.Goals as goal

pub returns : goal.returns
returns c = paired_runs_walk_home
