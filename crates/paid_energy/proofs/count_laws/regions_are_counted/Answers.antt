use Rattle.paid_energy.proofs.Counted.{regions_are_counted}
use Rattle.paid_energy.proofs.count_laws.regions_are_counted.Goals as goal

pub returns : goal.returns
returns c = regions_are_counted
