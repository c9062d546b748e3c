use Rattle.list_checks.proofs.TestLemmas.{any_at}
use Rattle.list_checks.proofs.place_tests.place_is_found.Goals as goal

pub returns : goal.returns
returns c test n k below passes = any_at test n k below passes
