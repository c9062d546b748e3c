use Rattle.result_laws.proofs.Keeping.{placed_result_keeps}
use Rattle.result_laws.proofs.placed_laws.placed_result_keeps.Goals as goal

pub returns : goal.returns
returns c = placed_result_keeps
