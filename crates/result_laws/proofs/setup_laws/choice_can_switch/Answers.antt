use Rattle.result_laws.proofs.Switching.{choice_can_switch}
use Rattle.result_laws.proofs.setup_laws.choice_can_switch.Goals as goal

pub returns : goal.returns
returns c = choice_can_switch
