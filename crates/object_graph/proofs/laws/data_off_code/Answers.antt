use Rattle.object_graph.proofs.CodeLemmas.{data_off_code}
use Rattle.object_graph.proofs.laws.data_off_code.Goals as goal

pub returns : goal.returns
returns c = data_off_code
