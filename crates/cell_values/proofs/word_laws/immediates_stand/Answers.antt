use Rattle.cell_values.proofs.ImmediateWords.{immediates_stand}
use Rattle.cell_values.proofs.word_laws.immediates_stand.Goals as goal

pub returns : goal.returns
returns c = immediates_stand
