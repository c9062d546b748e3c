use Rattle.result_laws.proofs.Walking.{placed_walks}
use Rattle.result_laws.proofs.placed_laws.placed_walks.Goals as goal

pub returns : goal.returns
returns c = placed_walks
