-- Forms of units in their order.
use Rattle.std.proofs.Common.{◌≡◌, inl, inr, ◌<◌, ◌==◌, Bool, true, ◌&&◌, List, [], ◌∷◌, slice_index_or, refl, subst, arith, nat_cmp, Ordering, Less, Equal, Greater}
use Rattle.std.specs.Prelude.{◌↔◌, Contains}
use Rattle.std.specs.Bool.{Decides}
use Rattle.std.specs.Cmp.{IsTotalOrder, nat_cmp_total, then_total, on_total, both_tied, unsigned_ties, ranks, decided}
use Rattle.std.specs.Ordering.{ordering_then, eq_by_cmp, MatchOrdering}
use Rattle.std.specs.List.{dedup, AllPairs}
use Rattle.std.specs.List.Sorted.{IsStrictlySortedBy, IsSorted}
use Rattle.std.proofs.lemmas.Bool.{eqb-true, eq-eqb}
use Rattle.std.proofs.lemmas.List.Kept.{IsStrictlySortedBy-dedup, AllPairs-cons, Contains-dedup, Contains-from_dedup}
use Rattle.std.proofs.lemmas.Map.Keys.{sorted_tail}
use Rattle.std.proofs.lemmas.Map.Views.{All-after_first}
use Rattle.list_checks.proofs.TestLemmas.{both}
use Rattle.relink_core.specs.declared.unit_forms.UnitAt.{UnitAt}
use Rattle.relink_core.specs.UnitMaps.{StandsBefore}

-- the derived comparisons: by place, by region, and by home
abbrev compared : UnitAt → UnitAt → Ordering
compared x y = ordering_then (nat_cmp x.at y.at) (ordering_then (nat_cmp x.region y.region) (nat_cmp x.home y.home))

abbrev pub same : UnitAt → UnitAt → Bool
same x y = (x.at == y.at) && ((x.region == y.region) && (x.home == y.home))

total : IsTotalOrder compared
total =
    then_total (on_total (λ (x : UnitAt). x.at) nat_cmp_total)
    (then_total (on_total (λ (x : UnitAt). x.region) nat_cmp_total) (on_total (λ (x : UnitAt). x.home) nat_cmp_total))

ties : (x y : UnitAt) → same x y ≡ eq_by_cmp compared x y
ties x y =
    both_tied (x.at == y.at) ((x.region == y.region) && (x.home == y.home)) (nat_cmp x.at y.at)
    (ordering_then (nat_cmp x.region y.region) (nat_cmp x.home y.home)) (unsigned_ties x.at y.at)
    (both_tied (x.region == y.region) (x.home == y.home) (nat_cmp x.region y.region) (nat_cmp x.home y.home) (unsigned_ties x.region y.region) (unsigned_ties x.home y.home))

less_before : (x y : UnitAt) (a b d : Ordering) → MatchOrdering a (x.at < y.at) (x.at ≡ y.at) (y.at < x.at) → MatchOrdering b (x.region < y.region) (x.region ≡ y.region) (y.region < x.region) → MatchOrdering d (x.home < y.home) (x.home ≡ y.home) (y.home < x.home) → ordering_then a (ordering_then b d) ≡ Less → StandsBefore x y
less_before x y Less b d first second third less = inl first
less_before x y Equal Less d first second third less = inr (first, inl second)
less_before x y Equal Equal Less first second third less = inr (first, inr (second, third))
less_before x y Equal Equal Equal first second third less = cc
less_before x y Equal Equal Greater first second third less = cc
less_before x y Equal Greater d first second third less = cc
less_before x y Greater b d first second third less = cc

before : (x y : UnitAt) → compared x y ≡ Less → StandsBefore x y
before x y less =
    less_before x y (nat_cmp x.at y.at) (nat_cmp x.region y.region) (nat_cmp x.home y.home) (ranks x.at y.at) (ranks x.region y.region) (ranks x.home y.home) less

pairs : (xs : List UnitAt) → IsStrictlySortedBy compared xs → AllPairs StandsBefore xs
pairs [] sorted = λ i j d lower below. absurd (omega (arith, below))
pairs (x ∷ xs) sorted =
    AllPairs-cons StandsBefore x xs
    (λ k d below. before x (slice_index_or xs k d) (All-after_first compared x xs sorted k d below))
    (pairs xs (sorted_tail compared x xs sorted))

pub arranged : (xs : List UnitAt) → IsSorted compared xs → AllPairs StandsBefore (dedup same xs)
arranged xs sorted = pairs (dedup same xs) (IsStrictlySortedBy-dedup total ties xs sorted)

pub same_is : (x y : UnitAt) → same x y ≡ true → x ≡ y
same_is x y is =
    let parts = both (x.at == y.at) ((x.region == y.region) && (x.home == y.home)) is in
    let later = both (x.region == y.region) (x.home == y.home) parts.1 in
    let at = eqb-true x.at y.at parts.0 in
    let region = eqb-true x.region y.region later.0 in
    let home = eqb-true x.home y.home later.1 in
    λ i. record { at = at i; region = region i; home = home i }

same_itself : (x : UnitAt) → same x x ≡ true
same_itself x =
    let at = eq-eqb x.at x.at refl in
    let region = eq-eqb x.region x.region refl in
    let home = eq-eqb x.home x.home refl in
    λ i. at i && (region i && home i)

decides : (x y : UnitAt) → Decides (same x y) (x ≡ y)
decides x y = (same_is x y, λ is. subst (λ (z : UnitAt). same x z ≡ true) is (same_itself x))

pub kept_once : (xs : List UnitAt) (x : UnitAt) → Contains (dedup same xs) x ↔ Contains xs x
kept_once xs x = (Contains-from_dedup same xs x, Contains-dedup (decided same decides) same_is xs x)
