use Rattle.object_graph.proofs.LeadLemmas.{high_sites_lead}
use Rattle.object_graph.proofs.laws.high_sites_lead.Goals as goal

pub returns : goal.returns
returns c = high_sites_lead
