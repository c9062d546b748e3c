use Rattle.std.proofs.lemmas.List.Sorted.{IsNonDecreasingBy-from_sort, sum_by-IsPermutation}
use Rattle.placement_candidates.proofs.ranking.arrange.Goals as goal

pub returns-clause-sorted : goal.returns-clause-sorted
returns-clause-sorted c = IsNonDecreasingBy-from_sort (λ x. x) _ c.sort_unstable.ensures.sorted

pub returns-clause-counts : goal.returns-clause-counts
returns-clause-counts c test = sum_by-IsPermutation _ _ _ c.sort_unstable.ensures.permutation
