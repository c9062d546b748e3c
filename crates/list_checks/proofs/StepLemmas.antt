-- Lists that grow at the end, by one step of a loop or of a definition, and the place at which a list passes a test.
use Rattle.std.proofs.Common.{◌≡◌, ◌∙◌, inl, inr, ℕ, zero, suc, ◌+◌, ◌<◌, Bool, true, ◌||◌, List, ◌∷◌, [], ◌++◌, map, take, length, get_or, slice_index_or, sym, ap, arith, add-one, length-append}
use Rattle.std.specs.List.{list_any}
use Rattle.std.proofs.Math.ListN.{get_or-append}
use Rattle.std.proofs.Math.Seq.{get_or-append_seam}
use Rattle.std.proofs.lemmas.Bool.{cases_lt}
use Rattle.std.proofs.lemmas.List.{map-append, take_more}
use Rattle.list_checks.specs.Tests.{any_below}
use Rattle.list_checks.proofs.TestLemmas.{either}

-- one place more is tested
pub any_more : (test : ℕ → Bool) (i : ℕ) (old new : Bool) → old ≡ any_below test i → new ≡ (old || test i) → new ≡ any_below test (i + 1)
any_more test i old new so_far here = rw (add-one i) (here ∙ ap (λ b. b || test i) so_far)

-- one element more is collected
pub collect_more : {A B : Type 0} (f : A → B) (xs : List A) (out more : List B) (y : B) (i : ℕ) (d : A) → i < length xs → more ≡ out ++ y ∷ [] → out ≡ map f (take i xs) → y ≡ f (get_or xs i d) → more ≡ map f (take (i + 1) xs)
collect_more f xs out more y i d below grown so_far is =
    grown
    ∙ ap (λ ys. ys ++ y ∷ []) so_far
    ∙ ap (λ x. map f (take i xs) ++ x ∷ []) is
    ∙ sym (map-append f (take i xs) (get_or xs i d ∷ []))
    ∙ ap (λ ys. map f ys) (sym (take_more xs i d below))

-- a list that is built of one element a number
pub length_built : {X : Type 0} (below : ℕ → List X) (at : ℕ → X) → below 0 ≡ [] → ((n : ℕ) → below (suc n) ≡ below n ++ at n ∷ []) → (n : ℕ) → length (below n) ≡ n
length_built {X} below at none more zero = ap (λ (xs : List X). length xs) none
length_built {X} below at none more (suc n) =
    let earlier = length_built below at none more n in
    let grown = ap (λ (xs : List X). length xs) (more n) ∙ length-append (below n) (at n ∷ []) in
    omega (arith, earlier, grown)

-- has at each place the element of that number
pub built_at : {X : Type 0} (below : ℕ → List X) (at : ℕ → X) (d : X) → below 0 ≡ [] → ((n : ℕ) → below (suc n) ≡ below n ++ at n ∷ []) → (n k : ℕ) → k < n → slice_index_or (below n) k d ≡ at k
built_at {X} below at d none more zero k inside = absurd (omega arith)
built_at {X} below at d none more (suc n) k inside =
    let count = length_built below at none more n in
    ap (λ (xs : List X). slice_index_or xs k d) (more n)
    ∙ elim (cases_lt k n) [
      | inl earlier ↦
          let within : k < length (below n) = omega (arith, count, earlier) in
          get_or-append (below n) (at n ∷ []) d k within ∙ built_at below at d none more n k earlier
      | inr behind ↦
          let here : k ≡ length (below n) = omega (arith, count, behind, inside) in
          let same : k ≡ n = omega (arith, behind, inside) in
          ap (λ j. slice_index_or (below n ++ at n ∷ []) j d) here
          ∙ get_or-append_seam (below n) (at n) [] d
          ∙ ap at (sym same)
    ]

-- a place at which a list passes a test
pub any_place : {X : Type 0} (test : X → Bool) (xs : List X) (d : X) → list_any test xs ≡ true → (k : ℕ) × ((k < length xs) × (test (slice_index_or xs k d) ≡ true))
any_place test [] d found = cc
any_place test (x ∷ xs) d found =
    elim (either (test x) (list_any test xs) found) [
      | inl here ↦ (0, (omega arith, here))
      | inr rest ↦ let (k, at) = any_place test xs d rest in let below = at.0 in (suc k, (omega (arith, below), at.1))
    ]
