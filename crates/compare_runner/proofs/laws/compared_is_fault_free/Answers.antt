use Rattle.compare_runner.proofs.HeadlineLemmas as headline
use Rattle.compare_runner.proofs.laws.compared_is_fault_free.Goals as goal

pub returns : goal.returns
returns c = headline.compared_is_fault_free
