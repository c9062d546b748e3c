use Rattle.placement_programme.proofs.RowLemmas.{weights_in_rows}
use Rattle.placement_programme.proofs.laws.weights_are_in_rows.Goals as goal

pub returns : goal.returns
returns c = weights_in_rows
