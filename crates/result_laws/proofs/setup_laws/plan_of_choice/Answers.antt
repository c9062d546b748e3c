use Rattle.result_laws.proofs.PlanStanding.{plan_of_choice}
use Rattle.result_laws.proofs.setup_laws.plan_of_choice.Goals as goal

pub returns : goal.returns
returns c = plan_of_choice
