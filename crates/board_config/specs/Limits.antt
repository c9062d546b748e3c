-- The ranges that values of a board have to be in.
use Rattle.std.specs.Prelude.{ℕ, ◌+◌, ◌%◌, ℤ, pos, negsuc, ◌&&◌, ◌||◌, ◌==◌, nat_le, if◌then◌else◌, List, length, codes, Bool, true, false, Option, Some, None, option_and_then}
use Rattle.std.specs.Str.{bytes_eq}
use Rattle.board_config.specs.Values.{all_of}
use Rattle.board_config.specs.declared.board.Range.{Range}

-- a number from `least` to `most`
abbrev pub within : ℕ → ℕ → ℤ → Option ℕ
within least most (pos n) = if nat_le least n && nat_le n most then Some n else None
within least most (negsuc n) = None

-- a range has a base from 0 and a size from 1, and the address behind it is at most 2 ^ 32 - 1
abbrev pub range_from : ℤ → ℤ → Option Range
range_from (pos base) (pos size) =
    if nat_le 1 size && nat_le (base + size) 4294967295 then Some (record { base = base; size = size }) else None
range_from _ _ = None

abbrev pub range_of : ℤ × ℤ → Option Range
range_of pair = range_from pair.0 pair.1

abbrev pub is_aligned : ℕ → Range → Bool
is_aligned unit range = range.base % unit == 0 && range.size % unit == 0

abbrev pub aligned : ℕ → ℕ → Range → Option Range
aligned unit most range = if is_aligned unit range && nat_le range.size most then Some range else None

-- a range whose base and size are multiples of the unit, and whose size is at most `most`
abbrev pub aligned_range : ℕ → ℕ → ℤ × ℤ → Option Range
aligned_range unit most pair = option_and_then (aligned unit most) (range_of pair)

-- a list of at most so many
abbrev pub at_most : {A : Type 0} → ℕ → List A → Option (List A)
at_most most list = if nat_le (length list) most then Some list else None

-- at most 16 ranges
abbrev pub area_ranges : List (ℤ × ℤ) → Option (List Range)
area_ranges pairs = option_and_then (all_of range_of) (at_most 16 pairs)

-- 16, 32 or 64 bytes
abbrev pub grain_from : ℤ → Option ℕ
grain_from (pos n) = if n == 16 || n == 32 || n == 64 then Some n else None
grain_from (negsuc n) = None

-- whether objects in sections without bytes in the file may move
abbrev pub bss_from : List ℕ → Option Bool
bss_from text =
    if bytes_eq text (codes "fixed") then Some false
    else if bytes_eq text (codes "movable") then Some true
    else None
