use Rattle.compare_runner.proofs.KeptLemmas as kept
use Rattle.compare_runner.proofs.laws.kept_runs_never_differ.Goals as goal

pub returns : goal.returns
returns c = kept.runs_never_differ c.one_instruction.ensures
