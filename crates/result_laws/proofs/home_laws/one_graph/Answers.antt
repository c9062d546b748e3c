use Rattle.result_laws.proofs.Single.{one_graph}
use Rattle.result_laws.proofs.home_laws.one_graph.Goals as goal

pub returns : goal.returns
returns c = one_graph
