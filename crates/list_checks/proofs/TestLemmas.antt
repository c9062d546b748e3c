-- How tests over places are used: what is found, and what holds where nothing is.
use Rattle.std.proofs.Common.{◌≡◌, ◌⊎◌, inl, inr, ℕ, zero, suc, ◌<◌, Bool, true, false, not, ◌&&◌, ◌||◌, refl, arith}
use Rattle.list_checks.specs.Tests.{any_below}

-- of two tests of which one passes
pub either : (a b : Bool) → a || b ≡ true → (a ≡ true) ⊎ (b ≡ true)
either true b found = inl refl
either false b found = inr found

-- of two tests of which none passes
pub neither : (a b : Bool) → a || b ≡ false → (a ≡ false) × (b ≡ false)
neither true b none = cc
neither false b none = (refl, none)

-- of two tests that both pass
pub both : (a b : Bool) → a && b ≡ true → (a ≡ true) × (b ≡ true)
both true b passes = (refl, passes)
both false b passes = cc

-- what is not so when its negation fails
pub not_not : (a : Bool) → not a ≡ false → a ≡ true
not_not true fails = refl
not_not false fails = cc

pub not_true : (a : Bool) → not a ≡ true → a ≡ false
not_true true passes = cc
not_true false passes = refl

-- where one thing without the other is ruled out, the one gives the other
pub given : (a b : Bool) → a && not b ≡ false → a ≡ true → b ≡ true
given true true none passes = refl
given true false none passes = cc
given false b none passes = cc

-- two tests are the same where each gives the other
pub same_tests : (a b : Bool) → (a ≡ true → b ≡ true) → (b ≡ true → a ≡ true) → a ≡ b
same_tests true b to from = let same = to refl in cc
same_tests false true to from = from refl
same_tests false false to from = refl

pub any_at : (test : ℕ → Bool) (n k : ℕ) → k < n → test k ≡ true → any_below test n ≡ true
any_at test zero k below passes = absurd (omega arith)
any_at test (suc n) k below passes =
    let place : (k ≡ n) ⊎ (k < n) = grind arith in
    elim place [
      | inl here ↦ let passes_here = rw here at passes in grind (arith, passes_here)
      | inr earlier ↦ let found = any_at test n k earlier passes in grind (arith, found)
    ]

pub none_at : (test : ℕ → Bool) (n k : ℕ) → k < n → any_below test n ≡ false → test k ≡ false
none_at test zero k below none = absurd (omega arith)
none_at test (suc n) k below none =
    let parts = neither (any_below test n) (test n) none in
    let place : (k ≡ n) ⊎ (k < n) = grind arith in
    elim place [ inl here ↦ rw here parts.1 | inr earlier ↦ none_at test n k earlier parts.0 ]

-- the place at which a test that passes somewhere passes
pub any_found : (test : ℕ → Bool) (n : ℕ) → any_below test n ≡ true → (k : ℕ) × (k < n) × (test k ≡ true)
any_found test zero found = cc
any_found test (suc n) found =
    elim (either (any_below test n) (test n) found) [
      | inl earlier ↦ let (k, below, passes) = any_found test n earlier in (k, omega arith, passes)
      | inr here ↦ (n, omega arith, here)
    ]

-- two tests that answer alike at each place
pub any_same : (test other : ℕ → Bool) (n : ℕ) → ((k : ℕ) → k < n → test k ≡ other k) → any_below test n ≡ any_below other n
any_same test other zero same = refl
any_same test other (suc n) same =
    let earlier = any_same test other n (λ k below. same k (omega (arith, below))) in
    let here = same n (omega arith) in
    λ i. earlier i || here i
