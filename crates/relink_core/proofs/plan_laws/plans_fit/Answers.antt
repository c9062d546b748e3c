use Rattle.relink_core.proofs.Holds.{plans_fit_so}
use Rattle.relink_core.proofs.plan_laws.plans_fit.Goals as goal

pub returns : goal.returns
returns c = plans_fit_so
