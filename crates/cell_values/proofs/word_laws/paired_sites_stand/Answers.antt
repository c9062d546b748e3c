use Rattle.cell_values.proofs.Sites.{paired_sites_stand}
use Rattle.cell_values.proofs.word_laws.paired_sites_stand.Goals as goal

pub returns : goal.returns
returns c = paired_sites_stand
