-- Sums of the values of the places below a bound.
use Rattle.std.proofs.Common.{◌≡◌, inl, inr, ℕ, zero, suc, ◌+◌, ◌<◌, ◌≤◌, refl, arith}
use Rattle.std.proofs.lemmas.Bool.{cases_lt}
use Rattle.list_checks.specs.Sorted.{sum_below}

pub sum_same : (f g : ℕ → ℕ) (n : ℕ) → ((k : ℕ) → k < n → f k ≡ g k) → sum_below f n ≡ sum_below g n
sum_same f g zero same = refl
sum_same f g (suc n) same =
    let earlier = sum_same f g n (λ k below. same k (omega (arith, below))) in
    let here = same n (omega arith) in
    omega (arith, earlier, here)

pub sum_zero : (f : ℕ → ℕ) (n : ℕ) → ((k : ℕ) → k < n → f k ≡ 0) → sum_below f n ≡ 0
sum_zero f zero none = refl
sum_zero f (suc n) none =
    let earlier = sum_zero f n (λ k below. none k (omega (arith, below))) in
    let here = none n (omega arith) in
    omega (arith, earlier, here)

pub sum_rises : (f : ℕ → ℕ) (k n : ℕ) → k ≤ n → sum_below f k ≤ sum_below f n
sum_rises f k zero le = let none : k ≡ 0 = omega (arith, le) in rw none (omega arith)
sum_rises f k (suc n) le =
    elim (cases_lt k (suc n)) [
      | inl less ↦ let earlier = sum_rises f k n (omega (arith, less)) in omega (arith, earlier)
      | inr all ↦ let same : k ≡ suc n = omega (arith, all, le) in rw same (omega arith)
    ]

-- where the places behind one add nothing
pub sum_stays : (f : ℕ → ℕ) (m n : ℕ) → m ≤ n → ((k : ℕ) → m ≤ k → k < n → f k ≡ 0) → sum_below f n ≡ sum_below f m
sum_stays f m zero le none = let here : m ≡ 0 = omega (arith, le) in rw here refl
sum_stays f m (suc n) le none =
    elim (cases_lt n m) [
      | inl here ↦ let same : m ≡ suc n = omega (arith, le, here) in rw same refl
      | inr below ↦
          let rest = sum_stays f m n below (λ k low high. none k low (omega (arith, high))) in
          let last = none n below (omega arith) in
          omega (arith, rest, last)
    ]
