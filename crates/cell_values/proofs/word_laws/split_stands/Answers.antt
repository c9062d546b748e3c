use Rattle.cell_values.proofs.Stores.{split_stands}
use Rattle.cell_values.proofs.word_laws.split_stands.Goals as goal

pub returns : goal.returns
returns c = split_stands
