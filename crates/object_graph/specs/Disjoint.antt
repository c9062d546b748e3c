-- Lists of ranges that share no byte, marks beside them, and places in them.
use Rattle.std.specs.Prelude.{◌≡◌, ℕ, zero, suc, ◌+◌, ◌<◌, ◌≤◌, ◌==◌, Bool, false, ◌||◌, if◌then◌else◌, List, [], ◌∷◌, ◌++◌, length, slice_index_or, Option, None, Some}
use Rattle.std.specs.List.{AllPairs}
use Rattle.loaded_file.specs.declared.byte_ranges.ByteRange.{ByteRange}
use Rattle.loaded_file.specs.ByteRanges.{byte_range_at, IsFilled}

-- each ends where or before each later one begins
abbrev pub IsDisjoint : List ByteRange → Type 0
IsDisjoint ranges = AllPairs (λ a b. a.home + a.size ≤ b.home) ranges

-- and none is empty
abbrev pub AreApart : List ByteRange → Type 0
AreApart ranges = IsDisjoint ranges × IsFilled ranges

-- a rule of ranges, at range `k` of a list
abbrev pub rule_at : (ℕ → ℕ → Bool) → List ByteRange → ℕ → Bool
rule_at rule ranges k = rule (byte_range_at ranges k).home (byte_range_at ranges k).size

-- ---- places

-- an answer is the place `k`
abbrev pub is_place : ℕ → Option ℕ → Bool
is_place k None = false
is_place k (Some place) = place == k

-- an answer is below `n`, if it is a place
abbrev pub IsBelow : ℕ → Option ℕ → Type 0
IsBelow n None = Unit
IsBelow n (Some place) = place < n

-- an answer is the place of the range of which a rule holds, where it holds of one
abbrev pub Finds : (ℕ → ℕ → Bool) → List ByteRange → Option ℕ → Type 0
Finds rule ranges answer = (k : ℕ) → k < length ranges → rule_at rule ranges k ≡ is_place k answer

-- ---- marks

-- the mark of place `k`; there is none behind the last
abbrev pub mark_at : List Bool → ℕ → Bool
mark_at marks k = slice_index_or marks k false

-- what an answer adds to marks
abbrev pub AddsPlace : Option ℕ → List Bool → List Bool → Type 0
AddsPlace answer old new = (k : ℕ) → mark_at new k ≡ (mark_at old k || is_place k answer)

-- what a rule adds to the marks of ranges
abbrev pub AddsRule : (ℕ → ℕ → Bool) → List ByteRange → List Bool → List Bool → Type 0
AddsRule rule ranges old new =
    (k : ℕ) → k < length ranges → mark_at new k ≡ (mark_at old k || rule_at rule ranges k)

-- the marks of ranges are those of a rule
abbrev pub AreMarks : (ℕ → ℕ → Bool) → List ByteRange → List Bool → Type 0
AreMarks rule ranges marks = (k : ℕ) → k < length ranges → mark_at marks k ≡ rule_at rule ranges k

-- the ranges without a mark, of the first n of a list
abbrev pub unmarked_at : List ByteRange → List Bool → ℕ → List ByteRange
unmarked_at ranges marks k = if mark_at marks k then [] else byte_range_at ranges k ∷ []

abbrev pub unmarked_below : List ByteRange → List Bool → ℕ → List ByteRange
unmarked_below ranges marks zero = []
unmarked_below ranges marks (suc k) = unmarked_below ranges marks k ++ unmarked_at ranges marks k
