-- Checks in a fixed order: what a loop that makes them finds, and what holds where none fails.
use Rattle.std.proofs.Common.{◌≡◌, ◌⊎◌, inl, inr, ℕ, zero, suc, ◌<◌, Bool, true, false, Option, Some, None, refl, ap, arith}
use Rattle.list_checks.specs.First.{◌or_else◌, unless, first_below}

-- where the checks below `i` hold and check `i` fails, it is the first of n that fails
pub first_found : {E : Type 0} (check : ℕ → Option E) (n i : ℕ) (fault : E) → i < n → first_below check i ≡ None → check i ≡ Some fault → first_below check n ≡ Some fault
first_found check zero i fault below none found = absurd (omega arith)
first_found check (suc n) i fault below none found =
    let place : (i ≡ n) ⊎ (i < n) = grind arith in
    elim place [
      | inl here ↦ let none_here = rw here at none in let found_here = rw here at found in rw none_here found_here
      | inr earlier ↦ let found_earlier = first_found check n i fault earlier none found in rw found_earlier
    ]

-- where neither check fails in order, each holds
pub both_none : {E : Type 0} (a b : Option E) → a or_else b ≡ None → (a ≡ None) × (b ≡ None)
both_none None b none = (refl, none)
both_none (Some fault) b none = cc

pub none_at : {E : Type 0} (check : ℕ → Option E) (n k : ℕ) → k < n → first_below check n ≡ None → check k ≡ None
none_at check zero k below none = absurd (omega arith)
none_at check (suc n) k below none =
    let parts = both_none (first_below check n) (check n) none in
    let place : (k ≡ n) ⊎ (k < n) = grind arith in
    elim place [ inl here ↦ rw here parts.1 | inr earlier ↦ none_at check n k earlier parts.0 ]

-- the test of a check that holds
pub holds : {E : Type 0} (test : Bool) (fault : E) → unless test fault ≡ None → test ≡ true
holds true fault none = refl
holds false fault none = cc

-- where each check holds, none of them fails
pub none_below : {E : Type 0} (check : ℕ → Option E) (n : ℕ) → ((k : ℕ) → k < n → check k ≡ None) → first_below check n ≡ None
none_below check zero all = refl
none_below check (suc n) all =
    let earlier = none_below check n (λ k below. all k (omega (arith, below))) in
    let here = all n (omega arith) in
    λ i. earlier i or_else here i

pub none_or : {E : Type 0} (a b : Option E) → a ≡ None → b ≡ None → a or_else b ≡ None
none_or a b first second = λ i. first i or_else second i

-- a check behind which none fails
pub or_none : {E : Type 0} (a b : Option E) → b ≡ None → a or_else b ≡ a
or_none None b none = none
or_none (Some fault) b none = refl

pub unless_true : {E : Type 0} (test : Bool) (fault : E) → test ≡ true → unless test fault ≡ None
unless_true test fault is = ap (λ t. unless t fault) is

-- a check whose test passes where another one's does
pub passes_on : {E : Type 0} (test other : Bool) (fault told : E) → (test ≡ true → other ≡ true) → unless test fault ≡ None → unless other told ≡ None
passes_on test other fault told on none = unless_true other told (on (holds test fault none))
