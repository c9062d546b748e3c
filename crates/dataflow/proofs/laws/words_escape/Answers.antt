use Rattle.dataflow.proofs.OverlaidLemmas.{words_escape}
use Rattle.dataflow.proofs.laws.words_escape.Goals as goal

pub returns : goal.returns
returns c code g o kept_out = words_escape code g o kept_out
