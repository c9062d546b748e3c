use Rattle.relink_core.proofs.ResultsRead.{results_are_read}
use Rattle.relink_core.proofs.laws.results_are_read.Goals as goal

pub returns : goal.returns
returns c = results_are_read
