use Rattle.compare_runner.proofs.HeadlineLemmas as headline
use Rattle.compare_runner.proofs.laws.kept_does_what_file_does.Goals as goal

pub returns : goal.returns
returns c = headline.kept_does_what_file_does c.unmoved_file_keeps.ensures
