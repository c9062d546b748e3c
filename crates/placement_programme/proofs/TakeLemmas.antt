-- Sums over taken numbers are sums over all numbers, in which only the taken ones are picked.
use Rattle.std.proofs.Common.{◌≡◌, ◌≢◌, inl, inr, ℕ, zero, suc, ◌+◌, ◌<◌, ◌≤◌, Bool, true, false, List, [], ◌∷◌, sym, ap, refl, subst, arith}
use Rattle.std.specs.List.{sum_by}
use Rattle.std.proofs.lemmas.Bool.{cases_eq}
use Rattle.std.proofs.lemmas.Bool.Decides.{nat_tests}
use Rattle.std.proofs.lemmas.List.Sums.{sum_by-cons}
use Rattle.placement_programme.specs.Bounds.{AscendWithin}
use Rattle.placement_programme.specs.Sums.{sum_below, picked, takes}

-- equal terms, and terms that are at most others, sum up likewise
pub below_same : (f g : ℕ → ℕ) (n : ℕ) → ((j : ℕ) → j < n → f j ≡ g j) → sum_below n f ≡ sum_below n g
below_same f g zero same = refl
below_same f g (suc n) same =
    let rest = below_same f g n (λ j inside. same j (omega arith)) in
    let here = same n (omega arith) in
    omega (arith, rest, here)

pub below_at_most : (f g : ℕ → ℕ) (n : ℕ) → ((j : ℕ) → j < n → f j ≤ g j) → sum_below n f ≤ sum_below n g
below_at_most f g zero less = omega arith
below_at_most f g (suc n) less =
    let rest = below_at_most f g n (λ j inside. less j (omega arith)) in
    let here = less n (omega arith) in
    omega (arith, rest, here)

pub below_none : (f : ℕ → ℕ) (n : ℕ) → ((j : ℕ) → j < n → f j ≡ 0) → sum_below n f ≡ 0
below_none f zero none = refl
below_none f (suc n) none =
    let rest = below_none f n (λ j inside. none j (omega arith)) in
    let here = none n (omega arith) in
    omega (arith, rest, here)

-- a number below the first bound is not among them
pub takes_above : (low high : ℕ) (ks : List ℕ) (j : ℕ) → AscendWithin low high ks → j < low → takes ks j ≡ false
takes_above low high [] j all before = refl
takes_above low high (k ∷ ks) j all before =
    let rest = takes_above (suc k) high ks j all.2 (omega (arith, all.0)) in
    let other : k ≢ j = omega (arith, all.0) in
    grind (arith, nat_tests, rest, other)

-- the first number is taken, and the others are those taken of the rest
pub takes_first : (k : ℕ) (ks : List ℕ) → takes (k ∷ ks) k ≡ true
takes_first k ks = grind (arith, nat_tests)

pub takes_other : (k : ℕ) (ks : List ℕ) (j : ℕ) → k ≢ j → takes (k ∷ ks) j ≡ takes ks j
takes_other k ks j other = grind (arith, nat_tests, other)

-- one picked number more
pub one_more : (f g : ℕ → ℕ) (k n : ℕ) → k < n → f k ≡ 0 → ((j : ℕ) → k ≢ j → g j ≡ f j) → sum_below n g ≡ g k + sum_below n f
one_more f g k zero inside none same = absurd (omega arith)
one_more f g k (suc n) inside none same =
    elim (cases_eq k n) [
      | inl last ↦
          let rest = below_same g f n (λ j before. same j (omega (arith, last))) in
          let gone : f n ≡ 0 = subst (λ m. f m ≡ 0) last none in
          let here : g k ≡ g n = ap g last in
          omega (arith, rest, gone, here)
      | inr earlier ↦
          let rest = one_more f g k n (omega (arith, earlier)) none same in
          let here = same n earlier in
          omega (arith, rest, here)
    ]

pub take_sum : (f : ℕ → ℕ) (low high : ℕ) (ks : List ℕ) → AscendWithin low high ks → sum_by f ks ≡ sum_below high (λ j. picked (takes ks j) (f j))
take_sum f low high [] all = sym (below_none (λ j. 0) high (λ j inside. refl))
take_sum f low high (k ∷ ks) all =
    let rest = take_sum f (suc k) high ks all.2 in
    let first = sum_by-cons f k ks in
    let fresh : takes ks k ≡ false = takes_above (suc k) high ks k all.2 (omega arith) in
    let none : picked (takes ks k) (f k) ≡ 0 = rw fresh refl in
    let same = λ (j : ℕ) (other : k ≢ j). ap (λ b. picked b (f j)) (takes_other k ks j other) in
    let more = one_more (λ j. picked (takes ks j) (f j)) (λ j. picked (takes (k ∷ ks) j) (f j)) k high all.1 none same in
    let here : picked (takes (k ∷ ks) k) (f k) ≡ f k = rw (takes_first k ks) refl in
    omega (arith, rest, first, more, here)

pub picked_more : (one other : Bool) (n : ℕ) → (one ≡ true → other ≡ true) → picked one n ≤ picked other n
picked_more false other n more = omega arith
picked_more true other n more = rw (more refl) (omega arith)

-- who takes more has at least the sum
pub more_taken : (f : ℕ → ℕ) (high : ℕ) (ks ls : List ℕ) → AscendWithin 0 high ks → AscendWithin 0 high ls → ((j : ℕ) → takes ks j ≡ true → takes ls j ≡ true) → sum_by f ks ≤ sum_by f ls
more_taken f high ks ls some all more =
    let less = below_at_most (λ j. picked (takes ks j) (f j)) (λ j. picked (takes ls j) (f j)) high (λ j inside. picked_more (takes ks j) (takes ls j) (f j) (more j)) in
    let of_some = take_sum f 0 high ks some in
    let of_all = take_sum f 0 high ls all in
    omega (arith, less, of_some, of_all)
