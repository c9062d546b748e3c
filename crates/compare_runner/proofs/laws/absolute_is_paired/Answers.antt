use Rattle.compare_runner.proofs.HeadlineLemmas as headline
use Rattle.compare_runner.proofs.laws.absolute_is_paired.Goals as goal

pub returns : goal.returns
returns c = headline.absolute_is_paired
