use Rattle.paid_energy.proofs.PaidRuns.{results_pay}
use Rattle.paid_energy.proofs.walk_laws.results_pay.Goals as goal

pub returns : goal.returns
returns c = results_pay
