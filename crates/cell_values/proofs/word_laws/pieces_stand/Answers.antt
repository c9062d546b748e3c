use Rattle.cell_values.proofs.Loads.{pieces_stand}
use Rattle.cell_values.proofs.word_laws.pieces_stand.Goals as goal

pub returns : goal.returns
returns c = pieces_stand
