use Rattle.command_language.proofs.LawLemmas.{breaking}
use Rattle.command_language.proofs.mix_laws.broken_is_first.Goals as goal

pub returns : goal.returns
returns c = breaking
