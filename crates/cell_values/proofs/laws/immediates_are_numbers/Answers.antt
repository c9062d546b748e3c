use Rattle.cell_values.proofs.Immediates.{immediates_are_numbers}
use Rattle.cell_values.proofs.laws.immediates_are_numbers.Goals as goal

pub returns : goal.returns
returns c = immediates_are_numbers
