use Rattle.result_laws.proofs.HomeStart.{start_is_alike}
use Rattle.result_laws.proofs.home_laws.start_is_alike.Goals as goal

pub returns : goal.returns
returns c = start_is_alike
