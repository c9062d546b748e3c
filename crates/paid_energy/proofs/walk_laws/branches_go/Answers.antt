use Rattle.paid_energy.proofs.Branches.{branches_go}
use Rattle.paid_energy.proofs.walk_laws.branches_go.Goals as goal

pub returns : goal.returns
returns c = branches_go
