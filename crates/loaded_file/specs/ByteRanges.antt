-- Lists of byte ranges: their order, which of them meet, and what they hold.
use Rattle.std.specs.Prelude.{◌≡◌, ℕ, zero, suc, ◌+◌, ◌*◌, ◌/◌, ◌%◌, ◌<◌, ◌==◌, nat_lt, Bool, true, not, ◌&&◌, ◌||◌, if◌then◌else◌, List, length, slice_index_or}
use Rattle.std.specs.List.{All, AllPairs, list_any}
use Rattle.list_checks.specs.Tests.{ranges_overlap}
use Rattle.loaded_file.specs.declared.byte_ranges.ByteRange.{ByteRange}

-- a byte range is the `n` bytes at `home`
abbrev pub is_byte_range : ℕ → ℕ → ByteRange → Bool
is_byte_range home n e = (e.home == home) && (e.size == n)

-- a list has it
abbrev pub has_byte_range_in : List ByteRange → ℕ → ℕ → Bool
has_byte_range_in ranges home n = list_any (is_byte_range home n) ranges

-- byte range `k` of a list; one without bytes behind the last
abbrev pub no_byte_range : ByteRange
no_byte_range = record { home = 0; size = 0 }

abbrev pub byte_range_at : List ByteRange → ℕ → ByteRange
byte_range_at ranges k = slice_index_or ranges k no_byte_range

-- the order of byte ranges: by home, and then by size
abbrev pub precedes : ByteRange → ByteRange → Bool
precedes a b = nat_lt a.home b.home || ((a.home == b.home) && nat_lt a.size b.size)

-- each precedes every later one: so they are in their order, each once
abbrev pub IsAscending : List ByteRange → Type 0
IsAscending ranges = AllPairs (λ a b. precedes a b ≡ true) ranges

-- each has bytes
abbrev pub IsFilled : List ByteRange → Type 0
IsFilled ranges = All (λ e. 0 < e.size) ranges

-- a byte range as one number, home above size; and back
abbrev pub key_of : ℕ → ℕ → ℕ
key_of home n = home * 4294967296 + n

abbrev pub byte_range_of : ℕ → ByteRange
byte_range_of key = record { home = key / 4294967296; size = key % 4294967296 }

-- a number is the key of the `n` bytes at `home`
abbrev pub is_key_of : ℕ → ℕ → ℕ → Bool
is_key_of home n key = is_byte_range home n (byte_range_of key)

-- the second byte range is another than the first and shares a byte with it
abbrev pub overlaps_unequal : ByteRange → ByteRange → Bool
overlaps_unequal e other = ranges_overlap e.home e.size other.home other.size && not (is_byte_range e.home e.size other)

-- a byte range shares a byte with another of a list
abbrev pub overlaps_another : List ByteRange → ByteRange → Bool
overlaps_another ranges e = list_any (overlaps_unequal e) ranges

-- the end of a byte range: the address behind its last byte
abbrev pub end_of : ByteRange → ℕ
end_of e = e.home + e.size

-- the greatest end of the first n byte ranges of a list, 0 where there are none
abbrev pub further_end : ℕ → ByteRange → ℕ
further_end furthest_end e = if nat_lt furthest_end (end_of e) then end_of e else furthest_end

abbrev pub furthest_end_below : List ByteRange → ℕ → ℕ
furthest_end_below ranges zero = 0
furthest_end_below ranges (suc k) = further_end (furthest_end_below ranges k) (byte_range_at ranges k)

-- the byte range behind byte range `k` begins before the end of this one
abbrev pub reaches_next : List ByteRange → ℕ → Bool
reaches_next ranges k =
    nat_lt (k + 1) (length ranges) && nat_lt (byte_range_at ranges (k + 1)).home (end_of (byte_range_at ranges k))
