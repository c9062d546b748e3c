-- Sums over all numbers below a bound, and over those of them that are taken.
use Rattle.std.specs.Prelude.{ℕ, zero, suc, ◌+◌, ◌==◌, Bool, true, false, if◌then◌else◌, List, [], ◌∷◌}

-- the sum of `f` over the numbers below n
abbrev pub sum_below : ℕ → (ℕ → ℕ) → ℕ
sum_below zero f = 0
sum_below (suc n) f = sum_below n f + f n

-- a number that is picked, and else 0
abbrev pub picked : Bool → ℕ → ℕ
picked true n = n
picked false n = 0

-- whether a number is among those that are taken
abbrev pub takes : List ℕ → ℕ → Bool
takes [] j = false
takes (k ∷ ks) j = if k == j then true else takes ks j
