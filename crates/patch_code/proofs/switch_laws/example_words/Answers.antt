use Rattle.patch_code.proofs.Example.{example_words_so}
use Rattle.patch_code.proofs.switch_laws.example_words.Goals as goal

pub returns : goal.returns
returns c = example_words_so
