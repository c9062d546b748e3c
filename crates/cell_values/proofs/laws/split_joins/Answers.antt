use Rattle.cell_values.proofs.Reloads.{split_joins}
use Rattle.cell_values.proofs.laws.split_joins.Goals as goal

pub returns : goal.returns
returns c = split_joins c.bytes_rebuild.ensures
