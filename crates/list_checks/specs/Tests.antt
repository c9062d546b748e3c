-- Tests over the places of a table, and over ranges of places or addresses.
-- A test is a truth value, so that its negation needs no definition of its own.
use Rattle.std.specs.Prelude.{◌≡◌, ℕ, zero, suc, ◌+◌, ◌<◌, nat_lt, nat_le, Bool, true, false, not, ◌&&◌, ◌||◌, List, [], ◌∷◌, ◌++◌}

-- some place below n passes the test
abbrev pub any_below : (ℕ → Bool) → ℕ → Bool
any_below test zero = false
any_below test (suc n) = any_below test n || test n

-- whether each place below n passes, in order
abbrev pub marks_below : (ℕ → Bool) → ℕ → List Bool
marks_below test zero = []
marks_below test (suc n) = marks_below test n ++ test n ∷ []

-- every place below n does
abbrev pub all_below : (ℕ → Bool) → ℕ → Bool
all_below test n = not (any_below (λ k. not (test k)) n)

-- the range of `size` places from `start` lies inside the range of `total` places from `base`; a range
-- of size 0 may stand at either end
abbrev pub lies_in : ℕ → ℕ → ℕ → ℕ → Bool
lies_in base total start size = nat_le base start && nat_le (start + size) (base + total)

-- two ranges, each a first place and a size, share a place. A range of size 0 has none
abbrev pub ranges_overlap : ℕ → ℕ → ℕ → ℕ → Bool
ranges_overlap base size other_base other_size =
    nat_lt 0 size && nat_lt 0 other_size && nat_lt base (other_base + other_size) && nat_lt other_base (base + size)

-- a place that passes is found
abbrev pub PlaceIsFound : Type 0
PlaceIsFound = (test : ℕ → Bool) (n k : ℕ) → k < n → test k ≡ true → any_below test n ≡ true

-- where none is found, no place passes
abbrev pub NonePasses : Type 0
NonePasses = (test : ℕ → Bool) (n k : ℕ) → k < n → any_below test n ≡ false → test k ≡ false
