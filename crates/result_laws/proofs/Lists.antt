-- Elements of lists, and first answers among places.
use Rattle.std.proofs.Common.{◌≡◌, inl, inr, ℕ, zero, suc, ◌<◌, Bool, true, List, [], ◌∷◌, length, slice_index_or, Option, Some, None, refl, arith}
use Rattle.std.specs.List.{list_any}
use Rattle.std.specs.Prelude.{AllPairs}
use Rattle.list_checks.proofs.TestLemmas.{either}
use Rattle.list_checks.specs.First.{◌or_else◌, first_below}

-- the element that passes a test
pub element_found : {X : Type 0} (test : X → Bool) (xs : List X) (d : X) → list_any test xs ≡ true → (k : ℕ) × ((k < length xs) × (test (slice_index_or xs k d) ≡ true))
element_found test [] d found = absurd (cc)
element_found test (x ∷ xs) d found =
    elim (either (test x) (list_any test xs) found) [
      | inl first ↦ (0, (omega arith, first))
      | inr later ↦
          let there = element_found test xs d later in
          let below = there.1.0 in
          (suc there.0, (omega (arith, below), there.1.1))
    ]

-- the element at a place, whatever stands for one behind the last
pub same_element : {X : Type 0} (xs : List X) (k : ℕ) (d e : X) → k < length xs → slice_index_or xs k d ≡ slice_index_or xs k e
same_element [] k d e below = absurd (omega arith)
same_element (x ∷ xs) zero d e below = refl
same_element (x ∷ xs) (suc k) d e below = same_element xs k d e (omega arith)

-- pairs behind the first
pub later_pairs : {X : Type 0} (R : X → X → Type 0) (x : X) (xs : List X) → AllPairs R (x ∷ xs) → AllPairs R xs
later_pairs R x xs pairs i j d before below = pairs (suc i) (suc j) d (omega (arith, before)) (omega (arith, below))

-- the place that gives the first answer
pub first_at : {E : Type 0} (check : ℕ → Option E) (n : ℕ) (x : E) → first_below check n ≡ Some x → (k : ℕ) × ((k < n) × (check k ≡ Some x))
first_at {E = E} check zero x found = absurd (cc)
first_at {E = E} check (suc n) x found = last (first_below check n) (λ y. first_at check n y) found
  where
    last : (o : Option E) → ((y : E) → o ≡ Some y → (k : ℕ) × ((k < n) × (check k ≡ Some y))) → o or_else check n ≡ Some x → (k : ℕ) × ((k < suc n) × (check k ≡ Some x))
    last None earlier here = (n, (omega arith, here))
    last (Some y) earlier here =
        let there = earlier x here in
        let below = there.1.0 in
        (there.0, (omega (arith, below), there.1.1))
