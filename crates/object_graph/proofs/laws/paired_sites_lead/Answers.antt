use Rattle.object_graph.proofs.LeadLemmas.{paired_sites_lead}
use Rattle.object_graph.proofs.laws.paired_sites_lead.Goals as goal

pub returns : goal.returns
returns c = paired_sites_lead
