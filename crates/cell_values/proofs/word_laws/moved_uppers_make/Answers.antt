use Rattle.cell_values.proofs.Makes.{moved_uppers_make}
use Rattle.cell_values.proofs.word_laws.moved_uppers_make.Goals as goal

pub returns : goal.returns
returns c = moved_uppers_make
