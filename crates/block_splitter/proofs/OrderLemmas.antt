-- Ranges of blocks in their order.
use Rattle.std.proofs.Common.{◌≡◌, ◌∙◌, inl, inr, ◌<◌, ◌==◌, Bool, true, false, ◌&&◌, ◌||◌, List, [], ◌∷◌, slice_index_or, refl, sym, ap, arith, nat_cmp, Ordering, Less, Equal, Greater}
use Rattle.std.specs.Cmp.{IsTotalOrder, nat_cmp_total, then_total, on_total, both_tied, unsigned_ties, ranks}
use Rattle.std.specs.Ordering.{ordering_then, eq_by_cmp, MatchOrdering}
use Rattle.std.specs.List.{list_any, dedup, dedup_from, AllPairs}
use Rattle.std.specs.List.Sorted.{IsStrictlySortedBy, IsSorted}
use Rattle.std.proofs.lemmas.Bool.{eqb-true, cond_both}
use Rattle.std.proofs.lemmas.List.Kept.{IsStrictlySortedBy-dedup, AllPairs-cons}
use Rattle.std.proofs.lemmas.Map.Keys.{sorted_tail}
use Rattle.std.proofs.lemmas.Map.Views.{All-after_first}
use Rattle.list_checks.proofs.TestLemmas.{both}
use Rattle.block_splitter.specs.declared.block_range.BlockRange.{BlockRange}
use Rattle.block_splitter.specs.Pieces.{ComesBefore}

-- the derived comparisons: by first block, and then by last
abbrev compared : BlockRange → BlockRange → Ordering
compared r s = ordering_then (nat_cmp r.first s.first) (nat_cmp r.last s.last)

abbrev pub same : BlockRange → BlockRange → Bool
same r s = (r.first == s.first) && (r.last == s.last)

total : IsTotalOrder compared
total = then_total (on_total (λ (r : BlockRange). r.first) nat_cmp_total) (on_total (λ (r : BlockRange). r.last) nat_cmp_total)

ties : (r s : BlockRange) → same r s ≡ eq_by_cmp compared r s
ties r s = both_tied (r.first == s.first) (r.last == s.last) (nat_cmp r.first s.first) (nat_cmp r.last s.last) (unsigned_ties r.first s.first) (unsigned_ties r.last s.last)

less_before : (r s : BlockRange) (a b : Ordering) → MatchOrdering a (r.first < s.first) (r.first ≡ s.first) (s.first < r.first) → MatchOrdering b (r.last < s.last) (r.last ≡ s.last) (s.last < r.last) → ordering_then a b ≡ Less → ComesBefore r s
less_before r s Less b first second less = inl first
less_before r s Equal Less first second less = inr (first, second)
less_before r s Equal Equal first second less = cc
less_before r s Equal Greater first second less = cc
less_before r s Greater b first second less = cc

before : (r s : BlockRange) → compared r s ≡ Less → ComesBefore r s
before r s less = less_before r s (nat_cmp r.first s.first) (nat_cmp r.last s.last) (ranks r.first s.first) (ranks r.last s.last) less

pairs : (rs : List BlockRange) → IsStrictlySortedBy compared rs → AllPairs ComesBefore rs
pairs [] sorted = λ i j d lower below. absurd (omega (arith, below))
pairs (r ∷ rs) sorted =
    AllPairs-cons ComesBefore r rs
    (λ k d below. before r (slice_index_or rs k d) (All-after_first compared r rs sorted k d below))
    (pairs rs (sorted_tail compared r rs sorted))

pub arranged : (rs : List BlockRange) → IsSorted compared rs → AllPairs ComesBefore (dedup same rs)
arranged rs sorted = pairs (dedup same rs) (IsStrictlySortedBy-dedup total ties rs sorted)

pub same_is : (r s : BlockRange) → same r s ≡ true → r ≡ s
same_is r s is =
    let parts = both (r.first == s.first) (r.last == s.last) is in
    let first = eqb-true r.first s.first parts.0 in
    let last = eqb-true r.last s.last parts.1 in
    λ i. record { first = first i; last = last i }

absorbs : (a b : Bool) → a || (a || b) ≡ a || b
absorbs true b = refl
absorbs false b = refl

any_twice : (t : BlockRange → Bool) (r s : BlockRange) (b : Bool) → r ≡ s → t s || (t r || b) ≡ t s || b
any_twice t r s b is = rw is (absorbs (t s) b)

any_from : (t : BlockRange → Bool) (rs : List BlockRange) (r : BlockRange) → list_any t (dedup_from same r rs) ≡ list_any t (r ∷ rs)
any_from t [] r = refl
any_from t (s ∷ rs) r =
    cond_both (same s r) (dedup_from same r rs) (r ∷ dedup_from same s rs) (λ left. list_any t left ≡ list_any t (r ∷ s ∷ rs))
    (λ is. any_from t rs r ∙ sym (any_twice t s r (list_any t rs) (same_is s r is)))
    (λ no. ap (λ (b : Bool). t r || b) (any_from t rs s))

pub any_once : (t : BlockRange → Bool) (rs : List BlockRange) → list_any t (dedup same rs) ≡ list_any t rs
any_once t [] = refl
any_once t (r ∷ rs) = any_from t rs r
