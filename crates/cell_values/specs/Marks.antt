-- Marks of the words that have other cells than bytes.
use Rattle.std.specs.Prelude.{◌≡◌, ◌⊎◌, ℕ, ◌/◌, ◌%◌, ◌<◌, false, List, length, slice_index, is_some, Option, Some, None}
use Rattle.rv32im.specs.Words.{half_of}
use Rattle.cell_values.specs.declared.values.Cell.{Cell}
use Rattle.cell_values.specs.declared.values.Cell.TheVariants.{Byte}

-- the mark of the word of an address, 0 where there are no marks
abbrev pub mark_of : List ℕ → ℕ → ℕ
mark_of marks a = slice_index marks (a / 4 % 65536)

-- marks are all there, or none yet
abbrev pub AreWhole : List ℕ → Type 0
AreWhole marks = 0 < length marks → length marks ≡ 65536

-- a table has no entry in a word without a mark
abbrev pub AreMarked : (ℕ → Option Cell) → List ℕ → Type 0
AreMarked table marks = (a : ℕ) → mark_of marks a ≡ 0 → is_some (table a) ≡ false

-- no mark is taken away
abbrev pub MarksGrow : List ℕ → List ℕ → Type 0
MarksGrow old new = (a : ℕ) → mark_of new a ≡ 0 → mark_of old a ≡ 0

-- how many cells a store puts
abbrev pub IsCount : ℕ → Type 0
IsCount n = (n ≡ 1) ⊎ ((n ≡ 2) ⊎ (n ≡ 4))

-- the halfword of two cells that are bytes
abbrev pub half_of_cells : Cell → Cell → Option ℕ
half_of_cells (Byte a) (Byte b) = Some (half_of a b)
half_of_cells first second = None
