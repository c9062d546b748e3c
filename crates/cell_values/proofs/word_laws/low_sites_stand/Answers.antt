use Rattle.cell_values.proofs.Sites.{low_sites_stand}
use Rattle.cell_values.proofs.word_laws.low_sites_stand.Goals as goal

pub returns : goal.returns
returns c = low_sites_stand
