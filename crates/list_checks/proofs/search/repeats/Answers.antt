use Rattle.list_checks.proofs.SortedLemmas.{number_twice}
use Rattle.list_checks.proofs.search.repeats.Goals as goal

pub returns : goal.returns
returns c = number_twice _ _ c.args.number c.args.sorted.now c.count_under.ensures c.count_up_to.ensures
