use Rattle.result_laws.proofs.Counts.{runs_count}
use Rattle.result_laws.proofs.copy_laws.runs_count.Goals as goal

pub returns : goal.returns
returns c = runs_count
