use Rattle.list_checks.proofs.TestLemmas.{none_at}
use Rattle.list_checks.proofs.place_tests.none_passes.Goals as goal

pub returns : goal.returns
returns c test n k below none = none_at test n k below none
