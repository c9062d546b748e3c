use Rattle.std.proofs.Common.{sym, rules}
use Rattle.std.proofs.lemmas.List.Sorted.{IsNonDecreasingBy-from_sort_by_key, list_any-IsPermutation}
use Rattle.object_graph.proofs.SortLemmas.{sorted_words}
use Rattle.object_graph.proofs.placed.sort_placed.Goals as goal

pub returns-clause-disjoint : goal.returns-clause-disjoint
returns-clause-disjoint g c =
    let place = g.T.Placed.place in
    let sort = c.sort_unstable_by_key.ensures in
    let order = IsNonDecreasingBy-from_sort_by_key place _ sort.sorted (λ a r q k. search rules) in
    sorted_words place _ _ c.requires sort.permutation order

pub returns-clause-same : goal.returns-clause-same
returns-clause-same g c test = sym (list_any-IsPermutation test _ _ c.sort_unstable_by_key.ensures.permutation)
