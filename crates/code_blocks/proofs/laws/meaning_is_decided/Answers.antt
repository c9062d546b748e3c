use Rattle.code_blocks.proofs.MeaningLemmas.{meaning_is_decided}
use Rattle.code_blocks.proofs.laws.meaning_is_decided.Goals as goal

pub returns : goal.returns
returns c = meaning_is_decided
