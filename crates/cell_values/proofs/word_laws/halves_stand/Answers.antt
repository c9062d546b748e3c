use Rattle.cell_values.proofs.Loads.{halves_stand}
use Rattle.cell_values.proofs.word_laws.halves_stand.Goals as goal

pub returns : goal.returns
returns c = halves_stand
