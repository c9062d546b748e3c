use Rattle.result_laws.proofs.LayingOut.{choice_lays_out}
use Rattle.result_laws.proofs.placement_laws.choice_lays_out.Goals as goal

pub returns : goal.returns
returns c = choice_lays_out
