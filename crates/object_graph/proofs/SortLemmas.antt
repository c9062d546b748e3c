-- Lists that grow at the end and are then sorted: what holds of any two of their elements.
use Rattle.std.proofs.Common.{◌≡◌, ◌≢◌, ◌∙◌, ◌⊎◌, inl, inr, ℕ, ◌+◌, ◌<◌, ◌≤◌, ◌==◌, Bool, true, false, ◌&&◌, ◌||◌, if◌then◌else◌, List, [], ◌∷◌, ◌++◌, length, get_or, get_or-set_same, get_or-set_other, refl, sym, ap, subst, arith}
use Rattle.std.specs.List.{AllPairs, list_any, swap}
use Rattle.std.specs.List.Sorted.{IsPermutation, IsNonDecreasingBy}
use Rattle.std.proofs.Math.ListN.{set, length-set}
use Rattle.std.proofs.lemmas.Bool.{cases_eq, cases_lt}
use Rattle.std.proofs.lemmas.Bool.Decides.{nat_tests}
use Rattle.std.proofs.lemmas.List.Edits.{swap_is, length-swap}
use Rattle.std.proofs.lemmas.List.Sorted.{IsPermutation-keeps, length_permutation}
use Rattle.list_checks.specs.Tests.{ranges_overlap}
use Rattle.object_graph.specs.Gathered.{AreSeparate, AreInOrder}

-- R holds of the elements at any two places
abbrev OfAnyTwo : {X : Type 0} → (X → X → Type 0) → List X → Type 0
OfAnyTwo {X} R xs = (i j : ℕ) (d : X) → i ≢ j → i < length xs → j < length xs → R (get_or xs i d) (get_or xs j d)

of_any_two : {X : Type 0} (R : X → X → Type 0) → ((x y : X) → R x y → R y x) → (xs : List X) → AllPairs R xs → OfAnyTwo R xs
of_any_two R turned xs all i j d other below below' =
    elim (cases_lt i j) [
      | inl before ↦ all i j d before below'
      | inr behind ↦ turned (get_or xs j d) (get_or xs i d) (all j i d (omega arith) below)
    ]

-- where the element at place `k` stood before the elements at p and q changed places
moved : ℕ → ℕ → ℕ → ℕ
moved p q k = if k == q then p else if k == p then q else k

abbrev ReadsMoved : {X : Type 0} → List X → ℕ → ℕ → ℕ → X → Type 0
ReadsMoved xs p q k d = get_or (swap xs p q) k d ≡ get_or xs (moved p q k) d

unmoved : (p q k : ℕ) → k ≢ q → k ≢ p → moved p q k ≡ k
unfolding moved
unmoved p q k first second = grind (arith, nat_tests, first, second)

at_second : (p q k : ℕ) → k ≡ q → moved p q k ≡ p
unfolding moved
at_second p q k here = grind (arith, nat_tests, here)

at_first : (p q k : ℕ) → k ≢ q → k ≡ p → moved p q k ≡ q
unfolding moved
at_first p q k first here = grind (arith, nat_tests, first, here)

moved_back : (p q i j : ℕ) → moved p q i ≡ moved p q j → i ≡ j
unfolding moved
moved_back p q i j same = grind (arith, nat_tests, same)

moved_below : (p q k n : ℕ) → p < n → q < n → k < n → moved p q k < n
unfolding moved
moved_below p q k n first second below = grind (arith, nat_tests, first, second, below)

reads_moved : {X : Type 0} (xs : List X) (p q k : ℕ) (d : X) → p < length xs → q < length xs → ReadsMoved xs p q k d
reads_moved {X} xs p q k d first second =
    let w : List X = set xs p (get_or xs q d) in
    let long = length-set xs p (get_or xs q d) in
    let swapped = ap (λ (l : List X). get_or l k d) (sym (swap_is xs p q d first second)) in
    elim (cases_eq k q) [
      | inl here ↦
          swapped
          ∙ ap (λ (n : ℕ). get_or (set w q (get_or xs p d)) n d) here
          ∙ get_or-set_same w q (get_or xs p d) d (omega arith)
          ∙ ap (λ (n : ℕ). get_or xs n d) (sym (at_second p q k here))
      | inr other ↦ elim (cases_eq k p) [
        | inl here ↦
            swapped
            ∙ get_or-set_other w q k (get_or xs p d) d other
            ∙ ap (λ (n : ℕ). get_or w n d) here
            ∙ get_or-set_same xs p (get_or xs q d) d first
            ∙ ap (λ (n : ℕ). get_or xs n d) (sym (at_first p q k other here))
        | inr disjoint ↦
            swapped
            ∙ get_or-set_other w q k (get_or xs p d) d other
            ∙ get_or-set_other xs p k (get_or xs q d) d disjoint
            ∙ ap (λ (n : ℕ). get_or xs n d) (sym (unmoved p q k other disjoint))
      ]
    ]

swap_keeps : {X : Type 0} (R : X → X → Type 0) (xs : List X) (p q : ℕ) → p < length xs → q < length xs → OfAnyTwo R xs → OfAnyTwo R (swap xs p q)
swap_keeps {X} R xs p q first second all i j d other below below' =
    let long = length-swap xs p q in
    let n = length xs in
    let held = all (moved p q i) (moved p q j) d (λ same. other (moved_back p q i j same)) (moved_below p q i n first second (omega arith)) (moved_below p q j n first second (omega arith)) in
    subst (λ (x : X). R x (get_or (swap xs p q) j d)) (sym (reads_moved xs p q i d first second))
    (subst (λ (y : X). R (get_or xs (moved p q i) d) y) (sym (reads_moved xs p q j d first second)) held)

-- a relation that holds of any two elements holds of them in another order
pub permuted : {X : Type 0} (R : X → X → Type 0) → ((x y : X) → R x y → R y x) → (xs ys : List X) → IsPermutation xs ys → AllPairs R xs → OfAnyTwo R ys
permuted R turned xs ys moves all =
    IsPermutation-keeps xs (λ l. OfAnyTwo R l) (of_any_two R turned xs all) (λ l p q first second kept. swap_keeps R l p q first second kept) ys moves

turned_overlaps : (a b : ℕ) → ranges_overlap a 4 b 4 ≡ false → ranges_overlap b 4 a 4 ≡ false
turned_overlaps a b disjoint = grind (arith, nat_tests, disjoint)

behind_word : (a b : ℕ) → a ≤ b → ranges_overlap a 4 b 4 ≡ false → a + 4 ≤ b
behind_word a b order disjoint = grind (arith, nat_tests, order, disjoint)

-- words of which no two meet, in the order of their addresses
pub sorted_words : {X : Type 0} (at : X → ℕ) (xs ys : List X) → AreSeparate at xs → IsPermutation xs ys → IsNonDecreasingBy at ys → AreInOrder at ys
sorted_words at xs ys separate moves order i j d before below =
    let two = permuted (λ x y. ranges_overlap (at x) 4 (at y) 4 ≡ false) (λ x y. turned_overlaps (at x) (at y)) xs ys moves separate in
    behind_word (at (get_or ys i d)) (at (get_or ys j d)) (order i j d (omega arith) below) (two i j d (λ same. absurd (omega (arith, same))) (omega arith) below)
