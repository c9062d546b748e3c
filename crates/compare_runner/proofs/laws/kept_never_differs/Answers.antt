use Rattle.compare_runner.proofs.KeptLemmas as kept
use Rattle.compare_runner.proofs.laws.kept_never_differs.Goals as goal

pub returns : goal.returns
returns c = kept.never_differs c.one_instruction.ensures
