use Rattle.workload_gen.proofs.Whole.{says_what_was_planned}
use Rattle.workload_gen.proofs.laws.reads_back.Goals as goal

pub returns : goal.returns
returns c = says_what_was_planned
