use Rattle.result_laws.proofs.LiveUnits.{steps_lead_on}
use Rattle.result_laws.proofs.live_laws.steps_lead_on.Goals as goal

pub returns : goal.returns
returns c = steps_lead_on
