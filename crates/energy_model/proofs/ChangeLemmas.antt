-- Changes from one place to another, counted in a table, and summed over the transitions of a run.
use Rattle.std.proofs.Common.{◌≡◌, ◌∙◌, ℕ, zero, suc, ◌+◌, ◌*◌, ◌<◌, ◌==◌, Bool, true, false, ◌&&◌, refl, arith, if◌then◌else◌}
use Rattle.list_checks.specs.Sorted.{count_below, sum_below}
use Rattle.list_checks.proofs.SumLemmas.{sum_zero, sum_same}
use Rattle.energy_model.proofs.SumLemmas.{sum_two}
use Rattle.energy_model.proofs.PlaceLemmas.{single}
use Rattle.energy_model.proofs.WordLemmas.{sum_if}

-- one change, from `x` to `y`
abbrev pub is_change : (ℕ → ℕ → Bool) → ℕ → ℕ → ℕ → ℕ → Bool
is_change test x y s r = test s r && ((x == s) && (y == r))

split_change : (test from to : Bool) (v : ℕ) → (if test && (from && to) then v else 0) ≡ (if from then (if to then (if test then v else 0) else 0) else 0)
split_change true true true v = refl
split_change true true false v = refl
split_change true false to v = refl
split_change false true true v = refl
split_change false true false v = refl
split_change false false to v = refl

one_change : (test : ℕ → ℕ → Bool) (v : ℕ → ℕ → ℕ) (x y m k : ℕ) → x < m → y < k → sum_below (λ s. sum_below (λ r. if is_change test x y s r then v s r else 0) k) m ≡ (if test x y then v x y else 0)
one_change test v x y m k from to =
    sum_same (λ s. sum_below (λ r. if is_change test x y s r then v s r else 0) k) (λ s. if x == s then sum_below (λ r. if y == r then (if test s r then v s r else 0) else 0) k else 0) m
    (λ s below.
    sum_same (λ r. if is_change test x y s r then v s r else 0) (λ r. if x == s then (if y == r then (if test s r then v s r else 0) else 0) else 0) k
    (λ r inside. split_change (test s r) (x == s) (y == r) (v s r))
    ∙ sum_if (x == s) (λ r. if y == r then (if test s r then v s r else 0) else 0) k)
    ∙ (single (λ s. sum_below (λ r. if y == r then (if test s r then v s r else 0) else 0) k) x m from
    ∙ single (λ r. if test x r then v x r else 0) y k to)

add_times : (c : ℕ) (b : Bool) (v : ℕ) → (c + (if b then 1 else 0)) * v ≡ c * v + (if b then v else 0)
add_times c true v = grind arith
add_times c false v = grind arith

-- the changes of `n` transitions from `x i` to `y i`
abbrev pub changes : (ℕ → ℕ → Bool) → (ℕ → ℕ) → (ℕ → ℕ) → ℕ → ℕ → ℕ → ℕ
changes test x y n s r = count_below (λ i. test s r && ((x i == s) && (y i == r))) n

pub changes_counted : (test : ℕ → ℕ → Bool) (v : ℕ → ℕ → ℕ) (x y : ℕ → ℕ) (m k n : ℕ) → ((i : ℕ) → i < n → x i < m) → ((i : ℕ) → i < n → y i < k) → sum_below (λ s. sum_below (λ r. changes test x y n s r * v s r) k) m ≡ sum_below (λ i. if test (x i) (y i) then v (x i) (y i) else 0) n
changes_counted test v x y m k zero from to =
    sum_zero (λ s. sum_below (λ r. 0 * v s r) k) m (λ s below. sum_zero (λ r. 0 * v s r) k (λ r inside. omega arith))
changes_counted test v x y m k (suc n) from to =
    let earlier = changes_counted test v x y m k n (λ i below. from i (omega (arith, below))) (λ i below. to i (omega (arith, below))) in
    let before = λ (s : ℕ). sum_below (λ r. changes test x y n s r * v s r) k in
    let here = λ (s : ℕ). sum_below (λ r. if is_change test (x n) (y n) s r then v s r else 0) k in
    let each = sum_same (λ s. sum_below (λ r. changes test x y (suc n) s r * v s r) k) (λ s. before s + here s) m (λ s below.
    sum_same (λ r. changes test x y (suc n) s r * v s r) (λ r. changes test x y n s r * v s r + (if is_change test (x n) (y n) s r then v s r else 0)) k
    (λ r inside. add_times (changes test x y n s r) (is_change test (x n) (y n) s r) (v s r))
    ∙ sum_two (λ r. changes test x y n s r * v s r) (λ r. if is_change test (x n) (y n) s r then v s r else 0) k) in
    let two = sum_two before here m in
    let one = one_change test v (x n) (y n) m k (from n (omega arith)) (to n (omega arith)) in
    omega (arith, earlier, each, two, one)
