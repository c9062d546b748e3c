use Rattle.command_language.proofs.LawLemmas.{spelling}
use Rattle.command_language.proofs.mix_laws.unbroken_is_spelled.Goals as goal

pub returns : goal.returns
returns c = spelling
