use Rattle.result_laws.proofs.LiveUnits.{liveness_keeps}
use Rattle.result_laws.proofs.live_laws.liveness_keeps.Goals as goal

pub returns : goal.returns
returns c = liveness_keeps
