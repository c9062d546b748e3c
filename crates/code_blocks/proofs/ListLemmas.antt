-- Tests over lists of numbers.
use Rattle.std.proofs.Common.{◌≡◌, ◌∙◌, inl, inr, ℕ, ◌<◌, ◌==◌, Bool, true, ◌||◌, List, [], ◌∷◌, map, length, slice_index_or, refl, sym, ap}
use Rattle.std.specs.List.{list_any}
use Rattle.std.proofs.lemmas.Bool.{eqb-true, eq-eqb}
use Rattle.std.proofs.lemmas.List.Folds.{list_any_at}
use Rattle.list_checks.proofs.TestLemmas.{either}
use Rattle.code_blocks.specs.Early.{has}
use Rattle.code_blocks.proofs.LeaderLemmas.{left_passes, right_passes}

-- a list passes a test where the list that it is made from passes the test of what is made
pub any_map : {A B : Type 0} (f : A → B) (test : B → Bool) (xs : List A) → list_any test (map f xs) ≡ list_any (λ x. test (f x)) xs
any_map f test [] = refl
any_map f test (x ∷ xs) = ap (λ (b : Bool). test (f x) || b) (any_map f test xs)

pub has_first : (x : ℕ) (xs : List ℕ) → has (x ∷ xs) x ≡ true
has_first x xs = left_passes (x == x) (has xs x) (eq-eqb x x refl)

pub has_later : (x : ℕ) (xs : List ℕ) (a : ℕ) → has xs a ≡ true → has (x ∷ xs) a ≡ true
has_later x xs a found = right_passes (a == x) (has xs a) found

-- tests that are the same at each number of a list
pub any_same_in : (t u : ℕ → Bool) (xs : List ℕ) → ((x : ℕ) → has xs x ≡ true → t x ≡ u x) → list_any t xs ≡ list_any u xs
any_same_in t u [] same = refl
any_same_in t u (x ∷ xs) same =
    let here = same x (has_first x xs) in
    let later = any_same_in t u xs (λ y found. same y (has_later x xs y found)) in
    rw (here, later) refl

-- a number of the list that passes
pub any_in : (test : ℕ → Bool) (xs : List ℕ) (x : ℕ) → has xs x ≡ true → test x ≡ true → list_any test xs ≡ true
any_in test [] x found passes = cc
any_in test (y ∷ xs) x found passes =
    elim (either (x == y) (has xs x) found) [
      | inl here ↦ left_passes (test y) (list_any test xs) (ap test (sym (eqb-true x y here)) ∙ passes)
      | inr later ↦ right_passes (test y) (list_any test xs) (any_in test xs x later passes)
    ]

-- the number at a place is in the list
pub has_at : (xs : List ℕ) (k d : ℕ) → k < length xs → has xs (slice_index_or xs k d) ≡ true
has_at xs k d below =
    list_any_at (λ x. slice_index_or xs k d == x) xs k d below (eq-eqb (slice_index_or xs k d) (slice_index_or xs k d) refl)
