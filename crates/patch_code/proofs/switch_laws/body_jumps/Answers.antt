use Rattle.patch_code.proofs.Bodies.{body_jumps_so}
use Rattle.patch_code.proofs.switch_laws.body_jumps.Goals as goal

pub returns : goal.returns
returns c = body_jumps_so
