use Rattle.object_graph.proofs.SiteLemmas.{sites_disjoint}
use Rattle.object_graph.proofs.laws.sites_disjoint.Goals as goal

pub returns : goal.returns
returns c = sites_disjoint
