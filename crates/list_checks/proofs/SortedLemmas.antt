-- What sorted lists tell by counts, and lists and counts of the places that pass a test.
use Rattle.std.proofs.Common.{◌≡◌, ◌∙◌, ◌⊎◌, inl, inr, ℕ, zero, suc, ◌+◌, ◌<◌, ◌≤◌, ◌==◌, nat_lt, nat_le, Bool, true, false, not, ◌&&◌, ◌||◌, if◌then◌else◌, List, [], ◌∷◌, length, slice_index_or, refl, sym, ap, arith}
use Rattle.std.specs.List.{count_by, list_any, dedup, Contains}
use Rattle.std.specs.List.Sorted.{IsStrictlyIncreasing, IsPartitionPoint}
use Rattle.std.proofs.Math.Dec.{eqb}
use Rattle.std.proofs.lemmas.Bool.{cases_lt}
use Rattle.std.proofs.lemmas.Bool.Decides.{nat_tests}
use Rattle.std.proofs.lemmas.List.Folds.{Any-from_list_any, list_any_at, list_any_none, list_any-append}
use Rattle.std.proofs.lemmas.List.{get_or_default}
use Rattle.std.proofs.lemmas.List.Kept.{Contains-from_dedup, Contains-dedup_nat, AllPairs-from_increasing}
use Rattle.std.proofs.lemmas.List.Sums.{sum_by-append, sum_by-cons}
use Rattle.list_checks.specs.Tests.{any_below}
use Rattle.list_checks.proofs.TestLemmas.{same_tests}
use Rattle.list_checks.specs.Sorted.{IsSorted, is_under, is_up_to, is_number, is_inside, count_below, collected}

-- ---- order

-- numbers that ascend, each once, ascend
pub sorted_once : (xs : List ℕ) → IsStrictlyIncreasing xs → IsSorted xs
sorted_once xs rise i j d before below =
    let place : (i ≡ j) ⊎ (i < j) = grind arith in
    elim place [
      | inl same ↦ rw same (omega arith)
      | inr earlier ↦ let lower = AllPairs-from_increasing xs rise i j d earlier below in omega (arith, lower)
    ]

-- ---- each kept once

-- a list passes a test where one of its numbers does
contained : (test : ℕ → Bool) (xs : List ℕ) (x : ℕ) → Contains xs x → test x ≡ true → list_any test xs ≡ true
contained test xs x (k, below, here) passes = list_any_at test xs k x below (ap test here ∙ passes)

from_dedup : (test : ℕ → Bool) (xs : List ℕ) → list_any test (dedup eqb xs) ≡ true → list_any test xs ≡ true
from_dedup test xs found =
    let (k, x, below, here, passes) = Any-from_list_any test (dedup eqb xs) found in
    contained test xs x (Contains-from_dedup eqb xs x (k, below, here)) passes

into_dedup : (test : ℕ → Bool) (xs : List ℕ) → list_any test xs ≡ true → list_any test (dedup eqb xs) ≡ true
into_dedup test xs found =
    let (k, x, below, here, passes) = Any-from_list_any test xs found in
    contained test (dedup eqb xs) x (Contains-dedup_nat xs x (k, below, here)) passes

pub any_dedup : (test : ℕ → Bool) (xs : List ℕ) → list_any test (dedup eqb xs) ≡ list_any test xs
any_dedup test xs = same_tests (list_any test (dedup eqb xs)) (list_any test xs) (from_dedup test xs) (into_dedup test xs)

-- ---- counts

count_cons : (test : ℕ → Bool) (x : ℕ) (xs : List ℕ) → count_by test (x ∷ xs) ≡ (if test x then 1 else 0) + count_by test xs
count_cons test x xs = sum_by-cons (λ y. if test y then 1 else 0) x xs

-- the numbers that pass stand before those that fail, so the border counts them
pub point_counts : (test : ℕ → Bool) (xs : List ℕ) (i : ℕ) → i ≤ length xs → IsPartitionPoint (λ y. test y ≡ true) (λ y. test y ≡ false) xs i → i ≡ count_by test xs
point_counts test [] i within point = omega arith
point_counts test (x ∷ xs) zero within point =
    let here : test x ≡ false = point.1 0 0 (omega arith) (omega arith) in
    let rest = point_counts test xs 0 (omega arith) ((λ k d from below. absurd (omega arith)), (λ k d from below. point.1 (suc k) d (omega arith) (omega arith))) in
    rw (count_cons test x xs, here) (omega (arith, rest))
point_counts test (x ∷ xs) (suc i) within point =
    let here : test x ≡ true = point.0 0 0 (omega arith) (omega arith) in
    let rest = point_counts test xs i (omega arith) ((λ k d from below. point.0 (suc k) d (omega arith) (omega arith)), (λ k d from below. point.1 (suc k) d (omega arith) (omega arith))) in
    rw (count_cons test x xs, here) (omega (arith, rest))

any_step : (b rest : Bool) (n : ℕ) → rest ≡ nat_lt 0 n → (b || rest) ≡ nat_lt 0 ((if b then 1 else 0) + n)
any_step true rest n same = grind (arith, nat_tests)
any_step false rest n same = grind (arith, nat_tests, same)

-- some number passes where the count is not 0
pub any_counted : (test : ℕ → Bool) (xs : List ℕ) → list_any test xs ≡ nat_lt 0 (count_by test xs)
any_counted test [] = refl
any_counted test (x ∷ xs) = rw (count_cons test x xs) (any_step (test x) _ _ (any_counted test xs))

up_to_step : (bound x all lower same : ℕ) → all ≡ lower + same → (if nat_le x bound then 1 else 0) + all ≡ (if nat_lt x bound then 1 else 0) + lower + ((if bound == x then 1 else 0) + same)
up_to_step bound x all lower same sum = grind (arith, nat_tests, sum)

-- the numbers up to a bound are those below it and those that are it
pub up_to_counts : (bound : ℕ) (xs : List ℕ) → count_by (is_up_to bound) xs ≡ count_by (is_under bound) xs + count_by (is_number bound) xs
up_to_counts bound [] = refl
up_to_counts bound (x ∷ xs) =
    rw (count_cons (is_up_to bound) x xs, count_cons (is_under bound) x xs, count_cons (is_number bound) x xs) (up_to_step bound x _ _ _ (up_to_counts bound xs))

inside_step : (from size x all lower within : ℕ) → all ≡ lower + within → (if nat_lt x (from + size) then 1 else 0) + all ≡ (if nat_lt x from then 1 else 0) + lower + ((if nat_le from x && nat_lt x (from + size) then 1 else 0) + within)
inside_step from size x all lower within sum = grind (arith, nat_tests, sum)

-- the numbers below the end of a range are those below its start and those inside
pub inside_counts : (from size : ℕ) (xs : List ℕ) → count_by (is_under (from + size)) xs ≡ count_by (is_under from) xs + count_by (is_inside from size) xs
inside_counts from size [] = refl
inside_counts from size (x ∷ xs) =
    rw (count_cons (is_under (from + size)) x xs, count_cons (is_under from) x xs, count_cons (is_inside from size) x xs) (inside_step from size x _ _ _ (inside_counts from size xs))

below_sum : (all lower some : ℕ) → all ≡ lower + some → nat_lt lower all ≡ nat_lt 0 some
below_sum all lower some sum = grind (arith, nat_tests, sum)

below_sum_twice : (all lower some : ℕ) → all ≡ lower + some → nat_lt (lower + 1) all ≡ nat_lt 1 some
below_sum_twice all lower some sum = grind (arith, nat_tests, sum)

-- what two counts tell of a number, and of a range
pub number_between : (lower all number : ℕ) (xs : List ℕ) → lower ≡ count_by (is_under number) xs → all ≡ count_by (is_up_to number) xs → nat_lt lower all ≡ list_any (is_number number) xs
number_between lower all number xs first second =
    below_sum all lower (count_by (is_number number) xs) (omega (arith, first, second, up_to_counts number xs)) ∙ sym (any_counted (is_number number) xs)

pub number_twice : (lower all number : ℕ) (xs : List ℕ) → lower ≡ count_by (is_under number) xs → all ≡ count_by (is_up_to number) xs → nat_lt (lower + 1) all ≡ nat_lt 1 (count_by (is_number number) xs)
number_twice lower all number xs first second =
    below_sum_twice all lower (count_by (is_number number) xs) (omega (arith, first, second, up_to_counts number xs))

pub some_inside : (lower all from size : ℕ) (xs : List ℕ) → lower ≡ count_by (is_under from) xs → all ≡ count_by (is_under (from + size)) xs → nat_lt lower all ≡ list_any (is_inside from size) xs
some_inside lower all from size xs first second =
    below_sum all lower (count_by (is_inside from size) xs) (omega (arith, first, second, inside_counts from size xs)) ∙ sym (any_counted (is_inside from size) xs)

differs : (xs : List ℕ) (number place : ℕ) → ((k : ℕ) → k < place → slice_index_or xs k 0 < number) → ((k : ℕ) → place ≤ k → k < length xs → number < slice_index_or xs k 0) → (k d : ℕ) → k < length xs → (number == slice_index_or xs k d) ≡ false
differs xs number place lower higher k d below =
    rw (get_or_default xs k d 0 below)
    elim (cases_lt k place) [
      | inl before ↦ let under = lower k before in grind (arith, nat_tests, under)
      | inr behind ↦ let over = higher k behind below in grind (arith, nat_tests, over)
    ]

-- a number that all before a place are below, and all from there on above, is not in the list
pub not_found : (xs : List ℕ) (number place : ℕ) → ((k : ℕ) → k < place → slice_index_or xs k 0 < number) → ((k : ℕ) → place ≤ k → k < length xs → number < slice_index_or xs k 0) → list_any (is_number number) xs ≡ false
not_found xs number place lower higher = list_any_none (is_number number) xs (λ k d below. differs xs number place lower higher k d below)

-- ---- places that pass a test

any_piece : (q : ℕ → Bool) (x : ℕ) (b : Bool) → list_any q (if b then x ∷ [] else []) ≡ (b && q x)
any_piece q x true = grind (arith)
any_piece q x false = refl

pub any_collected : (test : ℕ → Bool) (value : ℕ → ℕ) (q : ℕ → Bool) (n : ℕ) → list_any q (collected test value n) ≡ any_below (λ i. test i && q (value i)) n
any_collected test value q zero = refl
any_collected test value q (suc n) =
    list_any-append q (collected test value n) (if test n then value n ∷ [] else [])
    ∙ ap (λ b. b || list_any q (if test n then value n ∷ [] else [])) (any_collected test value q n)
    ∙ ap (λ b. any_below (λ i. test i && q (value i)) n || b) (any_piece q (value n) (test n))

count_piece : (q : ℕ → Bool) (x : ℕ) (b : Bool) → count_by q (if b then x ∷ [] else []) ≡ (if b && q x then 1 else 0)
count_piece q x true = rw (count_cons q x []) (omega arith)
count_piece q x false = refl

pub count_collected : (test : ℕ → Bool) (value : ℕ → ℕ) (q : ℕ → Bool) (n : ℕ) → count_by q (collected test value n) ≡ count_below (λ i. test i && q (value i)) n
count_collected test value q zero = refl
count_collected test value q (suc n) =
    let piece = if test n then value n ∷ [] else [] in
    let more = sum_by-append (λ y. if q y then 1 else 0) (collected test value n) piece in
    let earlier = count_collected test value q n in
    let here = count_piece q (value n) (test n) in
    omega (arith, more, earlier, here)

-- a place below n that passes is counted
pub counted : (test : ℕ → Bool) (n i : ℕ) → test i ≡ true → i < n → 0 < count_below test n
counted test zero i passes below = absurd (omega arith)
counted test (suc n) i passes below =
    let place : (i ≡ n) ⊎ (i < n) = grind arith in
    elim place [
      | inl here ↦ rw (rw here at passes) (omega arith)
      | inr earlier ↦ let some = counted test n i passes earlier in omega (arith, some)
    ]

places_step : (n i count : ℕ) (earlier here : Bool) → n < i → nat_lt 0 count ≡ earlier → nat_lt 0 (count + (if here then 1 else 0)) ≡ (earlier || (not (n == i) && here))
places_step n i count earlier true below same = grind (arith, nat_tests, below, same)
places_step n i count earlier false below same = grind (arith, nat_tests, below, same)

-- no place up to a given one is that one
places_before : (test : ℕ → Bool) (n i : ℕ) → n ≤ i → nat_lt 0 (count_below test n) ≡ any_below (λ j. not (j == i) && test j) n
places_before test zero i below = refl
places_before test (suc n) i below =
    places_step n i (count_below test n) _ (test n) (omega arith) (places_before test n i (omega arith))

place_here : (n i count : ℕ) (earlier here : Bool) → i ≡ n → here ≡ true → nat_lt 0 count ≡ earlier → nat_lt 1 (count + (if here then 1 else 0)) ≡ (earlier || (not (n == i) && here))
place_here n i count true true is passes same = grind (arith, nat_tests, is, same)
place_here n i count false true is passes same = grind (arith, nat_tests, is, same)
place_here n i count earlier false is passes same = cc

place_behind : (n i count : ℕ) (earlier here : Bool) → i < n → 0 < count → nat_lt 1 count ≡ earlier → nat_lt 1 (count + (if here then 1 else 0)) ≡ (earlier || (not (n == i) && here))
place_behind n i count earlier true below some same = grind (arith, nat_tests, below, some, same)
place_behind n i count earlier false below some same = grind (arith, nat_tests, below, same)

-- a second place passes just where another one than a given one does
pub two_places : (test : ℕ → Bool) (n i : ℕ) → test i ≡ true → i < n → nat_lt 1 (count_below test n) ≡ any_below (λ j. not (j == i) && test j) n
two_places test zero i passes below = absurd (omega arith)
two_places test (suc n) i passes below =
    let place : (i ≡ n) ⊎ (i < n) = grind arith in
    elim place [
      | inl here ↦
          place_here n i (count_below test n) _ (test n) here (ap test (sym here) ∙ passes) (places_before test n i (omega arith))
      | inr earlier ↦
          place_behind n i (count_below test n) _ (test n) earlier (counted test n i passes earlier) (two_places test n i passes earlier)
    ]
