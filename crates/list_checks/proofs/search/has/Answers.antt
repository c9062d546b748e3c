use Rattle.list_checks.proofs.SortedLemmas.{number_between}
use Rattle.list_checks.proofs.search.has.Goals as goal

pub returns : goal.returns
returns c = number_between _ _ c.args.number c.args.sorted.now c.count_under.ensures c.count_up_to.ensures
