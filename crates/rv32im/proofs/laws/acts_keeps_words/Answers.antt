use Rattle.rv32im.proofs.WordLemmas.{keeps_words}
use Rattle.rv32im.proofs.laws.acts_keeps_words.Goals as goal

pub returns : goal.returns
returns c = keeps_words
