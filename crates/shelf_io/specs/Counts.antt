-- Counts that a u64 holds. They stop at their last value, 2 ^ 64 - 1.
use Rattle.std.specs.Prelude.{◌≡◌, ◌⊎◌, ℕ, ◌+◌, ◌<◌, min, Bool, List, ◌==◌}
use Rattle.std.specs.List.{list_any}

-- the next value of a count
abbrev pub next_count : ℕ → ℕ
next_count count = min (count + 1) 18446744073709551615

-- a count rose, or stayed at its last value
abbrev pub Rose : ℕ → ℕ → Type 0
Rose old new = (old < new) ⊎ ((old ≡ 18446744073709551615) × (new ≡ 18446744073709551615))

-- whether a list of numbers names this call
abbrev pub is_listed : List ℕ → ℕ → Bool
is_listed listed number = list_any (λ call. call == number) listed
