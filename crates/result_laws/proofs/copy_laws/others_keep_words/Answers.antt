use Rattle.result_laws.proofs.CopySites.{others_keep_words}
use Rattle.result_laws.proofs.copy_laws.others_keep_words.Goals as goal

pub returns : goal.returns
returns c = others_keep_words
