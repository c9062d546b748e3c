use Rattle.object_graph.proofs.LeadLemmas.{data_words_lead}
use Rattle.object_graph.proofs.laws.data_words_lead.Goals as goal

pub returns : goal.returns
returns c = data_words_lead
