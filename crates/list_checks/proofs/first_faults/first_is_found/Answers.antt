use Rattle.list_checks.proofs.FirstLemmas.{first_found}
use Rattle.list_checks.proofs.first_faults.first_is_found.Goals as goal

pub returns : goal.returns
returns g c = first_found
