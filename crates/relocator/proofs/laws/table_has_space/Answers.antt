use Rattle.relocator.proofs.Examples.{table_has_space}
use Rattle.relocator.proofs.laws.table_has_space.Goals as goal

pub returns : goal.returns
returns c = table_has_space
