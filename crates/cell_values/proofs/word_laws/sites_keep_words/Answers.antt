use Rattle.cell_values.proofs.Keeps.{sites_keep_words}
use Rattle.cell_values.proofs.word_laws.sites_keep_words.Goals as goal

pub returns : goal.returns
returns c = sites_keep_words
