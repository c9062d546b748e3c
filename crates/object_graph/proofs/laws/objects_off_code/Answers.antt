use Rattle.object_graph.proofs.CodeLemmas.{objects_off_code}
use Rattle.object_graph.proofs.laws.objects_off_code.Goals as goal

pub returns : goal.returns
returns c = objects_off_code
