use Rattle.object_graph.proofs.OneSiteLemmas.{one_object}
use Rattle.object_graph.proofs.laws.one_object_a_site.Goals as goal

pub returns : goal.returns
returns c = one_object
