use Rattle.object_graph.proofs.LeadLemmas.{low_stores_lead}
use Rattle.object_graph.proofs.laws.low_stores_lead.Goals as goal

pub returns : goal.returns
returns c = low_stores_lead
