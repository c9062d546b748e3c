use Rattle.std.proofs.Common.{rules}
use Rattle.std.proofs.lemmas.List.Sorted.{IsNonDecreasingBy-from_sort_by_key, answers_always, ties_still_rise}
use Rattle.placement_programme.specs.Views.{plain_side}
use Rattle.branch_bound.specs.Ranking.{number_of}
use Rattle.branch_bound.proofs.RankingLemmas.{shortfall, listed_sorted, ranking_is}
use Rattle.certificate_checker.proofs.TallyLemmas.{gain_bounded}
use Rattle.branch_bound.proofs.ranking.ranking.Goals as goal

pub returns : goal.returns
returns c =
    let s = plain_side c.args.side.now in
    let sort = c.in_ok-sort_by_key.ensures in
    ranking_is s c.in_ok-ranked.ranked.items c.sort_by_key.new.self.items (λ k below. gain_bounded s k below c.args.side.now.bounds) c.in_ok-ranked.ensures sort.permutation
    (IsNonDecreasingBy-from_sort_by_key shortfall _ sort.sorted (λ a r q k. search rules))
    (ties_still_rise number_of shortfall c.in_ok-ranked.ranked.items c.sort_by_key.new.self.items (listed_sorted s c.in_ok-ranked.ranked.items c.in_ok-ranked.ensures) (sort.stable shortfall (answers_always _ _ _ (λ f a r g h. search rules))))
