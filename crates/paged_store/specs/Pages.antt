-- A memory in pages of 4,096 bytes. The directory has a page's number for each 4,096 addresses, and
-- the bytes of page p begin at p * 4096. Page 0 holds zeros: addresses without a page share it.
use Rattle.std.specs.Prelude.{◌≡◌, ◌≢◌, ℕ, ◌+◌, ◌*◌, ◌/◌, ◌%◌, ◌<◌, ◌≤◌, nat_lt, Bool, List, ◌++◌, take, drop, length, slice_index}
use Rattle.rv32im.specs.Memory.{Memory}

-- the number of an address's page, 0 where it has none
abbrev pub page_of : List ℕ → ℕ → ℕ
page_of directory a = slice_index directory (a / 4096)

-- where the byte of an address stands
abbrev pub byte_place : List ℕ → ℕ → ℕ
byte_place directory a = page_of directory a * 4096 + a % 4096

-- the byte at each address
abbrev pub paged_bytes : List ℕ → List ℕ → Memory
paged_bytes directory bytes = λ a. slice_index bytes (byte_place directory a)

-- whether an address has a page of its own
abbrev pub has_page : List ℕ → ℕ → Bool
has_page directory a = nat_lt 0 (page_of directory a)

-- ---- what holds of a directory and its bytes

-- page 0 holds zeros
abbrev pub IsZeroPage : List ℕ → Type 0
IsZeroPage bytes = (i : ℕ) → i < 4096 → slice_index bytes i ≡ 0

-- each page stands in the bytes, page 0 among them
abbrev pub AreInside : List ℕ → List ℕ → Type 0
AreInside directory bytes =
    (k : ℕ) → k < length directory → slice_index directory k * 4096 + 4096 ≤ length bytes

-- no page but page 0 serves twice
abbrev pub AreDisjoint : List ℕ → Type 0
AreDisjoint directory =
    (j k : ℕ) → slice_index directory j ≢ 0 → slice_index directory j ≡ slice_index directory k → j ≡ k

-- a directory has all addresses below 2 ^ 32, or is not there yet
abbrev pub IsWhole : List ℕ → Type 0
IsWhole directory = 0 < length directory → length directory ≡ 1048576

-- nothing but whole pages
abbrev pub IsInPages : List ℕ → Type 0
IsInPages bytes = length bytes % 4096 ≡ 0

-- ---- what making room leaves as it is

-- no page is given up
abbrev pub PagesStay : List ℕ → List ℕ → Type 0
PagesStay old new = (k : ℕ) → slice_index old k ≢ 0 → slice_index new k ≢ 0

-- ---- writes

-- `bytes` with a piece at a place
abbrev pub with_piece : List ℕ → ℕ → List ℕ → List ℕ
with_piece bytes place piece = take place bytes ++ (piece ++ drop (place + length piece) bytes)
