-- Sums over the picked of all variables.
use Rattle.std.proofs.Common.{◌≡◌, ℕ, zero, suc, ◌+◌, ◌*◌, ◌<◌, Bool, true, false, List, [], ◌∷◌, refl, ap, arith}
use Rattle.std.specs.List.{sum_by}
use Rattle.std.proofs.lemmas.List.Sums.{sum_by-cons}
use Rattle.placement_programme.specs.Sums.{sum_below, picked}
use Rattle.placement_programme.proofs.TakeLemmas.{below_same, below_none}

pub picked_none : (b : Bool) → picked b 0 ≡ 0
picked_none true = refl
picked_none false = refl

pub picked_add : (b : Bool) (m n : ℕ) → picked b (m + n) ≡ picked b m + picked b n
picked_add true m n = refl
picked_add false m n = refl

pub picked_scaled : (b : Bool) (c n : ℕ) → picked b (c * n) ≡ c * picked b n
picked_scaled true c n = refl
picked_scaled false c n = omega arith

pub below_add : (f g : ℕ → ℕ) (n : ℕ) → sum_below n (λ j. f j + g j) ≡ sum_below n f + sum_below n g
below_add f g zero = refl
below_add f g (suc n) = let rest = below_add f g n in omega (arith, rest)

pub below_scaled : (c : ℕ) (f : ℕ → ℕ) (n : ℕ) → sum_below n (λ j. c * f j) ≡ c * sum_below n f
below_scaled c f zero = omega arith
below_scaled c f (suc n) = let rest = below_scaled c f n in omega (arith, rest)

-- multiplied weights, summed by variables, are weights summed by variables, multiplied
pub exchanged : (n : ℕ) (x : ℕ → Bool) (w : ℕ → ℕ → ℕ) (ms : List (ℕ × ℕ)) → sum_below n (λ j. picked (x j) (sum_by (λ m. m.1 * w m.0 j) ms)) ≡ sum_by (λ m. m.1 * sum_below n (λ j. picked (x j) (w m.0 j))) ms
exchanged n x w [] = below_none (λ j. picked (x j) 0) n (λ j inside. picked_none (x j))
exchanged n x w (m ∷ ms) =
    let rest = exchanged n x w ms in
    let first = sum_by-cons (λ (k : ℕ × ℕ). k.1 * sum_below n (λ j. picked (x j) (w k.0 j))) m ms in
    let split : (j : ℕ) → j < n → picked (x j) (sum_by (λ k. k.1 * w k.0 j) (m ∷ ms)) ≡ m.1 * picked (x j) (w m.0 j) + picked (x j) (sum_by (λ k. k.1 * w k.0 j) ms) =
    λ j inside.
    let cons = ap (picked (x j)) (sum_by-cons (λ (k : ℕ × ℕ). k.1 * w k.0 j) m ms) in
    let both = picked_add (x j) (m.1 * w m.0 j) (sum_by (λ (k : ℕ × ℕ). k.1 * w k.0 j) ms) in
    let scaled = picked_scaled (x j) m.1 (w m.0 j) in
    omega (arith, cons, both, scaled) in
    let same = below_same (λ j. picked (x j) (sum_by (λ (k : ℕ × ℕ). k.1 * w k.0 j) (m ∷ ms))) (λ j. m.1 * picked (x j) (w m.0 j) + picked (x j) (sum_by (λ (k : ℕ × ℕ). k.1 * w k.0 j) ms)) n split in
    let added = below_add (λ j. m.1 * picked (x j) (w m.0 j)) (λ j. picked (x j) (sum_by (λ (k : ℕ × ℕ). k.1 * w k.0 j) ms)) n in
    let out = below_scaled m.1 (λ j. picked (x j) (w m.0 j)) n in
    omega (arith, rest, first, same, added, out)
