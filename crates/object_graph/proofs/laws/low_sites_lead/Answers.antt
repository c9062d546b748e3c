use Rattle.object_graph.proofs.LeadLemmas.{low_sites_lead}
use Rattle.object_graph.proofs.laws.low_sites_lead.Goals as goal

pub returns : goal.returns
returns c = low_sites_lead
