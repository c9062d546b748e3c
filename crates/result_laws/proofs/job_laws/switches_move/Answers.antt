use Rattle.result_laws.proofs.Switched.{switches_move_so}
use Rattle.result_laws.proofs.job_laws.switches_move.Goals as goal

pub returns : goal.returns
returns c = switches_move_so
