use Rattle.std.proofs.Common.{sym}
use Rattle.std.proofs.lemmas.List.Sorted.{IsNonDecreasingBy-from_sort, list_any-IsPermutation, sum_by-IsPermutation}
use Rattle.list_checks.proofs.lists.arrange.Goals as goal

pub returns-clause-sorted : goal.returns-clause-sorted
returns-clause-sorted c = IsNonDecreasingBy-from_sort (λ x. x) _ c.sort_unstable.ensures.sorted

pub returns-clause-same : goal.returns-clause-same
returns-clause-same c test = sym (list_any-IsPermutation test _ _ c.sort_unstable.ensures.permutation)

pub returns-clause-counts : goal.returns-clause-counts
returns-clause-counts c test = sum_by-IsPermutation _ _ _ c.sort_unstable.ensures.permutation
