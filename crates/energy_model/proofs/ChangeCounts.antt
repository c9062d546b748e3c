-- A region is entered at most once a transition, and left at most once.
use Rattle.std.proofs.Common.{◌≡◌, ℕ, zero, suc, ◌+◌, ◌≤◌, ◌==◌, nat_lt, Bool, true, false, not, ◌&&◌, if◌then◌else◌, List, length, refl, arith}
use Rattle.std.proofs.lemmas.Bool.Decides.{nat_tests}
use Rattle.list_checks.specs.Sorted.{count_below, sum_below}
use Rattle.list_checks.proofs.SumLemmas.{sum_zero}
use Rattle.list_checks.proofs.TestLemmas.{both}
use Rattle.profile_runner.specs.Transition.{Transition}
use Rattle.profile_runner.specs.Standing.{current}
use Rattle.profile_runner.specs.Counts.{switches_of}

-- where the value of one place alone grows, by at most one, so does the sum
one_grows : (f g : ℕ → ℕ) (at n : ℕ) → ((k : ℕ) → g k ≤ f k + (if at == k then 1 else 0)) → sum_below g n ≤ sum_below f n + (if nat_lt at n then 1 else 0)
one_grows f g at zero each = omega arith
one_grows f g at (suc n) each =
    let earlier = one_grows f g at n each in
    let here = each n in
    let passed = one_place at n in
    omega (arith, earlier, here, passed)
  where
    one_place : (at n : ℕ) → (if nat_lt at n then 1 else 0) + (if at == n then 1 else 0) ≤ (if nat_lt at (suc n) then 1 else 0)
    one_place at n = grind (arith, nat_tests)

at_most_one : (b : Bool) → (if b then 1 else 0) ≤ 1
at_most_one true = omega arith
at_most_one false = omega arith

-- counts of tests of which at most one passes each time
one_each : (test : ℕ → ℕ → Bool) (place : ℕ → ℕ) (width n : ℕ) → ((k i : ℕ) → test k i ≡ true → place i ≡ k) → sum_below (λ k. count_below (test k) n) width ≤ n
one_each test place width zero alone =
    let none = sum_zero (λ k. count_below (test k) zero) width (λ k below. refl) in
    omega (arith, none)
one_each test place width (suc n) alone =
    let earlier = one_each test place width n alone in
    let grown = one_grows (λ k. count_below (test k) n) (λ k. count_below (test k) (suc n)) (place n) width (λ k. counted k (test k n) refl) in
    let one = at_most_one (nat_lt (place n) width) in
    omega (arith, earlier, grown, one)
  where
    counted : (k : ℕ) (passes : Bool) → test k n ≡ passes → count_below (test k) n + (if test k n then 1 else 0) ≤ count_below (test k) n + (if place n == k then 1 else 0)
    counted k true is =
        let same = alone k n is in
        let here : (place n == k) ≡ true = grind (arith, nat_tests, same) in
        rw (is, here) (omega arith)
    counted k false is = rw is (omega arith)

same_place : (a b : ℕ) → a == b ≡ true → a ≡ b
same_place a b same = grind (arith, nat_tests, same)

module _ (starts regions : List ℕ) (transitions : List Transition) (count : ℕ) where
  abbrev changes : ℕ → ℕ → ℕ → Bool
  changes s r i = not (s == r) && ((current starts regions transitions i == s) && (current starts regions transitions (suc i) == r))

  both_places : (s r i : ℕ) → changes s r i ≡ true → (current starts regions transitions i ≡ s) × (current starts regions transitions (suc i) ≡ r)
  both_places s r i passes =
      let (differ, places) = both (not (s == r)) ((current starts regions transitions i == s) && (current starts regions transitions (suc i) == r)) passes in
      let (from, to) = both (current starts regions transitions i == s) (current starts regions transitions (suc i) == r) places in
      (same_place (current starts regions transitions i) s from, same_place (current starts regions transitions (suc i)) r to)

  pub few_enters : (r : ℕ) → sum_below (λ s. switches_of starts regions transitions s r) count ≤ length transitions
  few_enters r =
      one_each (λ s i. changes s r i) (λ i. current starts regions transitions i) count (length transitions) (λ s i passes. (both_places s r i passes).0)

  pub few_leaves : (s : ℕ) → sum_below (switches_of starts regions transitions s) count ≤ length transitions
  few_leaves s =
      one_each (λ r i. changes s r i) (λ i. current starts regions transitions (suc i)) count (length transitions) (λ r i passes. (both_places s r i passes).1)
