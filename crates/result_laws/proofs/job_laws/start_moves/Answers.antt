use Rattle.result_laws.proofs.Started.{start_moves_so}
use Rattle.result_laws.proofs.job_laws.start_moves.Goals as goal

pub returns : goal.returns
returns c = start_moves_so
