use Rattle.cell_values.proofs.Words.{operations_keep}
use Rattle.cell_values.proofs.laws.operations_keep_words.Goals as goal

pub returns : goal.returns
returns c = operations_keep c.acts_keeps_words.ensures
