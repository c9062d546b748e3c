use Rattle.rv32im.proofs.Meaning.{same_word}
use Rattle.rv32im.proofs.laws.one_word.Goals as goal

pub returns : goal.returns
returns c = same_word
