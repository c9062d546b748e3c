use Rattle.list_checks.proofs.SortedLemmas.{some_inside}
use Rattle.list_checks.proofs.search.has_inside.Goals as goal

pub returns : goal.returns
returns c =
    some_inside _ _ c.args.from c.args.size c.args.sorted.now c.count_under.ensures c.count_under-2.ensures
