-- What a list of addresses has, by its places and by binary search.
use Rattle.std.proofs.Common.{Result, Ok, Err, ◌≡◌, ◌∙◌, inl, inr, ℕ, ◌<◌, ◌≤◌, ◌==◌, true, false, List, length, slice_index_or, sym, arith}
use Rattle.std.specs.List.Sorted.{IsStrictlyIncreasing, IsBinarySearchResult}
use Rattle.std.specs.Ordering.{nat_cmp}
use Rattle.std.specs.Result.{is_ok}
use Rattle.std.proofs.lemmas.Bool.{cases_lt, eq-eqb, eqb-true}
use Rattle.std.proofs.lemmas.Grind.{get_or_default_zero}
use Rattle.std.proofs.lemmas.List.Folds.{Any-from_list_any, list_any_at}
use Rattle.std.proofs.lemmas.List.Kept.{AllPairs-from_increasing}
use Rattle.std.proofs.lemmas.List.Sorted.{searched}
use Rattle.list_checks.proofs.TestLemmas.{same_tests}
use Rattle.code_blocks.specs.Early.{has}

-- the place of an address that a list has
pub has_found : (xs : List ℕ) (a : ℕ) → has xs a ≡ true → (k : ℕ) × (k < length xs) × (slice_index_or xs k 0 ≡ a)
has_found xs a found =
    let (k, x, below, here, passes) = Any-from_list_any (λ x. a == x) xs found in
    (k, below, sym (get_or_default_zero xs k x below) ∙ here ∙ sym (eqb-true a x passes))

pub has_at : (xs : List ℕ) (a k : ℕ) → k < length xs → slice_index_or xs k a ≡ a → has xs a ≡ true
has_at xs a k below here = list_any_at (λ x. a == x) xs k a below (eq-eqb a _ (sym here))

-- numbers that rise do not fall
pub not_falling : (xs : List ℕ) → IsStrictlyIncreasing xs → (i j : ℕ) → i ≤ j → j < length xs → slice_index_or xs i 0 ≤ slice_index_or xs j 0
not_falling xs rise i j before below =
    elim (cases_lt i j) [
      | inl lower ↦ let less = AllPairs-from_increasing xs rise i j 0 lower below in omega (arith, less)
      | inr behind ↦ let same : i ≡ j = omega (arith, before, behind) in rw same (omega arith)
    ]

-- what a binary search finds is in the list, and nothing else is
pub search_tells : (xs : List ℕ) (a : ℕ) (r : Result ℕ ℕ) → IsStrictlyIncreasing xs → IsBinarySearchResult (λ y. nat_cmp y a) xs r → is_ok r ≡ has xs a
search_tells xs a (Ok i) rise is =
    let there = searched xs a (Ok i) is (not_falling xs rise) in
    sym (list_any_at (λ x. a == x) xs i 0 there.0 (eq-eqb a _ (sym there.1)))
search_tells xs a (Err i) rise is =
    let gap = searched xs a (Err i) is (not_falling xs rise) in
    same_tests false (has xs a) (λ never. absurd cc)
    (λ found.
    let (k, below, here) = has_found xs a found in
    elim (cases_lt k i) [
      | inl before ↦ let lower = gap.1 k before in absurd (omega (arith, lower, here))
      | inr behind ↦ let upper = gap.2 k behind below in absurd (omega (arith, upper, here))
    ])
