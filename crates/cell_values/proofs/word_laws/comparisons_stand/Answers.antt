use Rattle.cell_values.proofs.Branches.{comparisons_stand}
use Rattle.cell_values.proofs.word_laws.comparisons_stand.Goals as goal

pub returns : goal.returns
returns c = comparisons_stand
