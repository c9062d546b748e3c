use Rattle.std.proofs.Common.{sym, rules}
use Rattle.std.proofs.lemmas.List.Sorted.{IsNonDecreasingBy-from_sort_by_key, list_any-IsPermutation}
use Rattle.object_graph.proofs.SortLemmas.{sorted_words}
use Rattle.relocator.specs.Gathering.{address_of}
use Rattle.relocator.proofs.words.sort_words.Goals as goal

pub returns-clause-disjoint : goal.returns-clause-disjoint
returns-clause-disjoint c =
    let sort = c.sort_unstable_by_key.ensures in
    let order = IsNonDecreasingBy-from_sort_by_key address_of _ sort.sorted (λ a r q k. search rules) in
    sorted_words address_of _ _ c.requires sort.permutation order

pub returns-clause-same : goal.returns-clause-same
returns-clause-same c test = sym (list_any-IsPermutation test _ _ c.sort_unstable_by_key.ensures.permutation)
