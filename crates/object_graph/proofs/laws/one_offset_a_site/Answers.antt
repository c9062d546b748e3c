use Rattle.object_graph.proofs.OneSiteLemmas.{one_offset}
use Rattle.object_graph.proofs.laws.one_offset_a_site.Goals as goal

pub returns : goal.returns
returns c = one_offset
