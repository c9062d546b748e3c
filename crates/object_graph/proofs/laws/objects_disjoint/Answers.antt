use Rattle.object_graph.proofs.MovableLemmas.{objects_disjoint}
use Rattle.object_graph.proofs.laws.objects_disjoint.Goals as goal

pub returns : goal.returns
returns c = objects_disjoint
