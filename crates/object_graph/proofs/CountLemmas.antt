-- How many elements of a list have a number below a bound, where no two have the same.
use Rattle.std.proofs.Common.{◌≡◌, ◌≢◌, ◌∙◌, inl, inr, ℕ, zero, suc, ◌+◌, ◌<◌, ◌==◌, nat_lt, Bool, true, false, ◌||◌, if◌then◌else◌, List, [], ◌∷◌, length, get_or, refl, sym, ap, arith, rules}
use Rattle.std.specs.List.{All, AllPairs, list_any, count_by}
use Rattle.std.proofs.lemmas.Bool.{cases_Bool, eqb-true}
use Rattle.std.proofs.lemmas.Bool.Decides.{nat_tests}
use Rattle.list_checks.proofs.TestLemmas.{neither}
use Rattle.std.proofs.lemmas.List.Sums.{sum_by-cons}
use Rattle.std.proofs.lemmas.List.Folds.{list_any_none, list_any_at}

abbrev pub one_if : Bool → ℕ
one_if b = if b then 1 else 0

abbrev Distinct : {X : Type 0} → (X → ℕ) → List X → Type 0
Distinct name xs = AllPairs (λ x y. name x ≢ name y) xs

none_counts : 0 ≡ one_if false
none_counts = refl

first_only : (here others : Bool) (n : ℕ) → here ≡ true → n ≡ 0 → one_if here + n ≡ one_if (here || others)
first_only here others n first none = rw (first, none) refl

rest_only : (here others : Bool) (n : ℕ) → here ≡ false → n ≡ one_if others → one_if here + n ≡ one_if (here || others)
rest_only here others n first rest = rw (first, rest) (omega arith)

other_name : (n m k : ℕ) → (n == k) ≡ true → n ≢ m → (m == k) ≡ false
other_name n m k here disjoint = grind (arith, nat_tests, here, disjoint)

under_more : (n k : ℕ) → one_if (nat_lt n (k + 1)) ≡ one_if (nat_lt n k) + one_if (n == k)
under_more n k = grind (arith, nat_tests)

count_cons : {X : Type 0} (test : X → Bool) (x : X) (xs : List X) → count_by test (x ∷ xs) ≡ one_if (test x) + count_by test xs
count_cons test x xs = sum_by-cons (λ y. one_if (test y)) x xs

-- one more number
pub count_split : {X : Type 0} (name : X → ℕ) (k : ℕ) (xs : List X) → count_by (λ x. nat_lt (name x) (k + 1)) xs ≡ count_by (λ x. nat_lt (name x) k) xs + count_by (λ x. name x == k) xs
count_split name k [] = refl
count_split name k (x ∷ xs) =
    let rest = count_split name k xs in
    let here = under_more (name x) k in
    let a = count_cons (λ y. nat_lt (name y) (k + 1)) x xs in
    let b = count_cons (λ y. nat_lt (name y) k) x xs in
    let c = count_cons (λ y. name y == k) x xs in
    omega (arith, rest, here, a, b, c)

tail_distinct : {X : Type 0} (name : X → ℕ) (x : X) (xs : List X) → Distinct name (x ∷ xs) → Distinct name xs
tail_distinct name x xs all i j d before below = all (suc i) (suc j) d (omega arith) (omega arith)

pub count_none : {X : Type 0} (test : X → Bool) (xs : List X) → list_any test xs ≡ false → count_by test xs ≡ 0
count_none test [] none = refl
count_none test (x ∷ xs) none =
    let parts = neither (test x) (list_any test xs) none in
    let rest = count_none test xs parts.1 in
    let here = ap one_if parts.0 in
    omega (arith, rest, count_cons test x xs, here, none_counts)

-- the elements of one number are one, or none
pub count_once : {X : Type 0} (name : X → ℕ) (k : ℕ) (xs : List X) → Distinct name xs → count_by (λ x. name x == k) xs ≡ one_if (list_any (λ x. name x == k) xs)
count_once name k [] all = none_counts
count_once {X} name k (x ∷ xs) all =
    let rest = count_once name k xs (tail_distinct name x xs all) in
    let test = λ (y : X). name y == k in
    elim (cases_Bool (name x == k)) [
      | inl here ↦
          let others = list_any_none test xs (λ j d below. other_name (name x) (name (get_or xs j d)) k here (all 0 (suc j) d (omega arith) (omega arith))) in
          let none = count_none test xs others in
          count_cons test x xs ∙ first_only (name x == k) (list_any test xs) (count_by test xs) here none
      | inr elsewhere ↦
          count_cons test x xs ∙ rest_only (name x == k) (list_any test xs) (count_by test xs) elsewhere rest
    ]

-- where all numbers are below the bound, all elements are counted
pub count_all : {X : Type 0} (test : X → Bool) (xs : List X) → All (λ x. test x ≡ true) xs → count_by test xs ≡ length xs
count_all test [] all = refl
count_all test (x ∷ xs) all =
    let rest = count_all test xs (λ k d below. all (suc k) d (omega arith)) in
    let here = ap one_if (all 0 x (omega arith)) in
    omega (arith, rest, here, count_cons test x xs)
