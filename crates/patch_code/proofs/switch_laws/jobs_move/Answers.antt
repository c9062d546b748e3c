use Rattle.patch_code.proofs.Moves.{jobs_move_so}
use Rattle.patch_code.proofs.switch_laws.jobs_move.Goals as goal

pub returns : goal.returns
returns c = jobs_move_so
