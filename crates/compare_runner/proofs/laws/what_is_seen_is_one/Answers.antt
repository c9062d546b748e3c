use Rattle.compare_runner.proofs.HeadlineLemmas as headline
use Rattle.compare_runner.proofs.laws.what_is_seen_is_one.Goals as goal

pub returns : goal.returns
returns c = headline.what_is_seen_is_one
