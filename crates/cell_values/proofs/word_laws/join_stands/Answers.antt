use Rattle.cell_values.proofs.Loads.{join_stands}
use Rattle.cell_values.proofs.word_laws.join_stands.Goals as goal

pub returns : goal.returns
returns c = join_stands
