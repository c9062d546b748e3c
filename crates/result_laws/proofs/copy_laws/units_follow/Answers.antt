use Rattle.result_laws.proofs.Places.{units_follow}
use Rattle.result_laws.proofs.copy_laws.units_follow.Goals as goal

pub returns : goal.returns
returns c = units_follow
