use Rattle.cell_values.proofs.Makes.{kept_uppers_make}
use Rattle.cell_values.proofs.word_laws.kept_uppers_make.Goals as goal

pub returns : goal.returns
returns c = kept_uppers_make
