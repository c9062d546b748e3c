-- What a binary search by a number of each element finds, and what holds where it finds nothing.
use Rattle.std.proofs.Common.{◌≡◌, ◌≢◌, ◌∙◌, inl, inr, ℕ, ◌<◌, ◌≤◌, ◌==◌, nat_lt, Bool, true, false, ◌&&◌, ◌||◌, List, [], ◌∷◌, length, get_or, refl, sym, ap, subst, arith}
use Rattle.std.specs.List.{AllPairs, list_any}
use Rattle.std.specs.List.Sorted.{IsPartitionPoint, IsPartitionedBy, IsNonDecreasingBy}
use Rattle.std.proofs.lemmas.Bool.{cases_Bool, cases_eq, cases_lt, both_ways, eqb-true, eq-eqb}
use Rattle.std.proofs.lemmas.Bool.Decides.{nat_tests}
use Rattle.std.proofs.lemmas.List.Folds.{list_any_none, list_any_at, Any-from_list_any}
use Rattle.std.proofs.lemmas.List.Sorted.{IsPartitionedBy-ltb}
use Rattle.std.proofs.lemmas.List.{get_or_default}
use Rattle.list_checks.proofs.TestLemmas.{both, same_tests}
use Rattle.loaded_file.proofs.ByteRangeLemmas.{both_made}
use Rattle.object_graph.specs.Gathered.{AreInOrder}

-- the numbers below place c are below `a`, and no other is
pub record Parts {X : Type 0} (at : X → ℕ) (xs : List X) (a c : ℕ) : Type 0 where
  pub low : (k : ℕ) (d : X) → k < c → at (get_or xs k d) < a
  pub high : (k : ℕ) (d : X) → c ≤ k → k < length xs → a ≤ at (get_or xs k d)

low_number : (n a : ℕ) → nat_lt n a ≡ true → n < a
low_number n a test = grind (arith, nat_tests, test)

high_number : (n a : ℕ) → nat_lt n a ≡ false → a ≤ n
high_number n a test = grind (arith, nat_tests, test)

pub parts : {X : Type 0} (at : X → ℕ) (xs : List X) (a c : ℕ) → IsPartitionPoint (λ x. nat_lt (at x) a ≡ true) (λ x. nat_lt (at x) a ≡ false) xs c → Parts at xs a c
parts at xs a c point = record {
  low = λ k d below. low_number (at (get_or xs k d)) a (point.0 k d (omega arith) below);
  high = λ k d behind below. high_number (at (get_or xs k d)) a (point.1 k d behind below);
}

-- the numbers of the elements rise
abbrev pub Rises : {X : Type 0} → (X → ℕ) → List X → Type 0
Rises at xs = AllPairs (λ x y. at x < at y) xs

pub never_falls : {X : Type 0} (at : X → ℕ) (xs : List X) → Rises at xs → IsNonDecreasingBy at xs
never_falls {X} at xs rises i j d order below =
    elim (cases_lt i j) [
      | inl before ↦ let lower = rises i j d before below in omega arith
      | inr behind ↦
          let same : i ≡ j = omega (arith, order, behind) in
          let equal = ap (λ (k : ℕ). at (get_or xs k d)) same in
          omega (arith, equal)
    ]

-- where the first element that isn't below fails a test of that number, all fail it
none_there : {X : Type 0} (at : X → ℕ) (test : X → Bool) (xs : List X) (a c : ℕ) → Parts at xs a c → Rises at xs → ((x : X) → test x ≡ true → at x ≡ a) → ((d : X) → c < length xs → test (get_or xs c d) ≡ false) → list_any test xs ≡ false
none_there {X} at test xs a c parted rises of_number fails =
    list_any_none test xs
    (λ k d below. elim (cases_Bool (test (get_or xs k d))) [
      | inr misses ↦ misses
      | inl hits ↦
          let here = of_number (get_or xs k d) hits in
          elim (cases_lt k c) [
            | inl before ↦ let lower = parted.low k d before in absurd (omega (arith, here, lower))
            | inr behind ↦ elim (cases_eq k c) [
              | inl same ↦
                  let passes = subst (λ (m : ℕ). test (get_or xs m d) ≡ true) same hits in
                  absurd (both_ways _ (fails d (omega (arith, below, same))) passes)
              | inr other ↦
                  let after : c < k = omega (arith, other, behind) in
                  let least = parted.high c d (omega arith) (omega (arith, after, below)) in
                  let more = rises c k d after below in
                  absurd (omega (arith, here, least, more))
            ]
          ]
    ])

-- ---- the element with a number

-- where none has it, none is found
pub find_none : {X : Type 0} (at : X → ℕ) (test : X → Bool) (xs : List X) (a c : ℕ) → Parts at xs a c → Rises at xs → ((d : X) → c < length xs → at (get_or xs c d) ≢ a) → false ≡ list_any (λ x. test x && (at x == a)) xs
find_none {X} at test xs a c parted rises fails =
    sym (none_there at (λ x. test x && (at x == a)) xs a c parted rises (λ x hits. eqb-true (at x) a (both (test x) (at x == a) hits).1)
    (λ d below. other_number (test (get_or xs c d)) (at (get_or xs c d)) a (fails d below)))
  where
    other_number : (p : Bool) (n m : ℕ) → n ≢ m → p && (n == m) ≡ false
    other_number p n m other = grind (arith, nat_tests, other)

-- two places of one number are one
one_place : {X : Type 0} (at : X → ℕ) (xs : List X) → Rises at xs → (k c : ℕ) (d : X) → k < length xs → c < length xs → at (get_or xs k d) ≡ at (get_or xs c d) → k ≡ c
one_place at xs rises k c d first second equal =
    elim (cases_eq k c) [
      | inl one ↦ one
      | inr other ↦ elim (cases_lt k c) [
        | inl before ↦ let more = rises k c d before second in absurd (omega (arith, equal, more))
        | inr behind ↦ let more = rises c k d (omega (arith, other, behind)) first in absurd (omega (arith, equal, more))
      ]
    ]

-- the one that has it is found
pub find_some : {X : Type 0} (at : X → ℕ) (test : X → Bool) (xs : List X) (a c : ℕ) (d : X) → Rises at xs → c < length xs → at (get_or xs c d) ≡ a → test (get_or xs c d) ≡ list_any (λ x. test x && (at x == a)) xs
find_some {X} at test xs a c d rises below here =
    let both_of = λ (x : X). test x && (at x == a) in
    same_tests (test (get_or xs c d)) (list_any both_of xs)
    (λ hits. list_any_at both_of xs c d below (both_made (test (get_or xs c d)) (at (get_or xs c d) == a) hits (eq-eqb (at (get_or xs c d)) a here)))
    (λ found.
    let (k, y, within, is, hits) = Any-from_list_any both_of xs found in
    let split = both (test y) (at y == a) hits in
    let same = get_or_default xs k d y within ∙ is in
    let place : at (get_or xs k d) ≡ a = ap at same ∙ eqb-true (at y) a split.1 in
    let equal = one_place at xs rises k c d within below (place ∙ sym here) in
    subst (λ (j : ℕ). test (get_or xs j d) ≡ true) equal (ap test same ∙ split.0))

-- elements that are the same have the same number
pub any_alike : {X : Type 0} (at : X → ℕ) (same : X → X → Bool) → ((x y : X) → same x y ≡ true → at x ≡ at y) → (xs : List X) (x : X) (a : ℕ) → list_any (λ y. same x y && (at y == a)) xs ≡ list_any (same x) xs && (at x == a)
any_alike at same alike [] x a = refl
any_alike at same alike (y ∷ ys) x a = joined (same x y) (list_any (same x) ys) (at x) (at y) a _ (alike x y) (any_alike at same alike ys x a)
  where
    joined : (p q : Bool) (n m a : ℕ) (r : Bool) → (p ≡ true → n ≡ m) → r ≡ q && (n == a) → (p && (m == a)) || r ≡ (p || q) && (n == a)
    joined true q n m a r equal earlier = let is = equal refl in grind (arith, nat_tests, is, earlier)
    joined false q n m a r equal earlier = earlier

-- words in order have rising addresses
pub rises_in_order : {X : Type 0} (at : X → ℕ) (xs : List X) → AreInOrder at xs → Rises at xs
rises_in_order at xs order i j d before below = let disjoint = order i j d before below in omega arith

pub parted_at : {X : Type 0} (at : X → ℕ) (xs : List X) (a : ℕ) → AreInOrder at xs → IsPartitionedBy (λ x. nat_lt (at x) a) xs
parted_at at xs a order = IsPartitionedBy-ltb at xs a (never_falls at xs (rises_in_order at xs order))
