use Rattle.cell_values.proofs.Keeps.{cells_keep_words}
use Rattle.cell_values.proofs.word_laws.cells_keep_words.Goals as goal

pub returns : goal.returns
returns c = cells_keep_words
