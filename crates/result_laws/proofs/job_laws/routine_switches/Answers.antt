use Rattle.result_laws.proofs.Behind.{routine_switches_so}
use Rattle.result_laws.proofs.job_laws.routine_switches.Goals as goal

pub returns : goal.returns
returns c = routine_switches_so
