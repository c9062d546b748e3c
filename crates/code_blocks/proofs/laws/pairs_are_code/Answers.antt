use Rattle.code_blocks.proofs.PairLemmas.{pair_is_code}
use Rattle.code_blocks.proofs.laws.pairs_are_code.Goals as goal

pub returns : goal.returns
returns c v p pair = pair_is_code v p pair
