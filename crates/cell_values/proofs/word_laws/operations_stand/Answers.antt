use Rattle.cell_values.proofs.OperationWords.{operations_stand}
use Rattle.cell_values.proofs.word_laws.operations_stand.Goals as goal

pub returns : goal.returns
returns c = operations_stand
