use Rattle.branch_bound.proofs.ListLemmas.{stated_lists_exist}
use Rattle.branch_bound.proofs.laws.stated_lists_exist.Goals as goal

pub returns : goal.returns
returns c = stated_lists_exist
