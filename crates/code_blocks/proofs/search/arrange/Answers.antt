use Rattle.std.proofs.Common.{◌∙◌, ◌==◌, sym}
use Rattle.std.proofs.lemmas.List.Filters.{dedup_is}
use Rattle.std.proofs.lemmas.List.Sorted.{list_any-IsPermutation}
use Rattle.std.proofs.lemmas.Map.Keys.{IsStrictlyIncreasing-dedup}
use Rattle.code_blocks.proofs.EarlyLemmas.{has_dedup}
use Rattle.code_blocks.proofs.search.arrange.Goals as goal

pub returns-clause-ascending : goal.returns-clause-ascending
returns-clause-ascending c = rw (dedup_is _ _ _ c.dedup.ensures.filtered) (IsStrictlyIncreasing-dedup _ c.sort_unstable.ensures.sorted)

pub returns-clause-same : goal.returns-clause-same
returns-clause-same c a =
    rw (dedup_is _ _ _ c.dedup.ensures.filtered)
    (has_dedup _ a ∙ sym (list_any-IsPermutation (λ x. a == x) _ _ c.sort_unstable.ensures.permutation))
