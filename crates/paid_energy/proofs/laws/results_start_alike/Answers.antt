use Rattle.paid_energy.proofs.AlikeResults.{results_start_alike_so}
use Rattle.paid_energy.proofs.laws.results_start_alike.Goals as goal

pub returns : goal.returns
returns c = results_start_alike_so
