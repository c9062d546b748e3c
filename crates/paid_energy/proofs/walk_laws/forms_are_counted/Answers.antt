use Rattle.paid_energy.proofs.CountedWalks.{forms_counted}
use Rattle.paid_energy.proofs.walk_laws.forms_are_counted.Goals as goal

pub returns : goal.returns
returns c = forms_counted
