-- Which addresses are mapped, and which bytes an instruction or a call can reach.
use Rattle.std.specs.Prelude.{ℕ, zero, suc, ◌+◌, ◌%◌, ◌==◌, nat_lt, nat_le, Bool, true, ◌&&◌, List, [], ◌∷◌, IsTrue}
use Rattle.std.specs.List.{list_any}
use Rattle.board_config.specs.declared.board.Range.{Range}

-- an address lies in a range
abbrev pub in_range : Range → ℕ → Bool
in_range range a = nat_le range.base a && nat_lt a (range.base + range.size)

-- an address lies in one of the ranges
abbrev pub is_mapped : List Range → ℕ → Bool
is_mapped map a = list_any (λ range. in_range range a) map

-- the `n` addresses from `at` are mapped
abbrev pub all_mapped : List Range → ℕ → ℕ → Bool
all_mapped map at zero = true
all_mapped map at (suc n) = all_mapped map at n && is_mapped map (at + n)

-- one range holds all of the `n` addresses from `at`
abbrev pub is_inside_one : List Range → ℕ → ℕ → Bool
is_inside_one map at n =
    list_any (λ range. nat_le range.base at && nat_le (at + n) (range.base + range.size)) map

-- what one range holds is held by one of the ranges
abbrev pub IsPart : Range → List Range → Type 0
IsPart range map =
    (at n : ℕ) → IsTrue (is_inside_one (range ∷ []) at n) → IsTrue (is_inside_one map at n)

-- a fetch, load or store of `width` bytes: aligned, and each byte mapped. A misaligned access may
-- trap (RISC-V Unprivileged ISA, "Load and Store Instructions"), and does here.
abbrev pub can_access : List Range → ℕ → ℕ → Bool
can_access map at width = (at % width == 0) && all_mapped map at width

-- the `n` bytes that a call moves: none passes 2 ^ 32, and each is mapped
abbrev pub can_move : List Range → ℕ → ℕ → Bool
can_move map at n = nat_le (at + n) 4294967296 && all_mapped map at n
