use Rattle.std.proofs.Common.{◌∙◌}
use Rattle.code_blocks.proofs.MeaningLemmas.{decoded}
use Rattle.code_blocks.proofs.meanings.has_meaning.Goals as goal

pub returns : goal.returns
returns c = c.is_some.ensures ∙ decoded c.args.word c.decode.result c.decode.ensures.means
