-- Entries for words of memory, each word numbered by its address over four. An index has at the address of each word 0, or
-- else the place of its entry, counted from 1.
use Rattle.std.specs.Prelude.{◌≡◌, ℕ, ◌/◌, ◌%◌, ◌==◌, if◌then◌else◌, List, slice_index_or, Option, Some, None}
use Rattle.paged_store.specs.Pages.{paged_bytes}
use Rattle.cell_values.specs.declared.values.Val.{Val}
use Rattle.cell_values.specs.declared.values.Cell.{Cell}
use Rattle.cell_values.specs.declared.values.Cell.TheVariants.{Mist}
use Rattle.cell_values.specs.declared.word_table.WordTable.{WordTable}
use Rattle.cell_values.specs.Entries.{place_of, entry_in}
use Rattle.cell_values.specs.Cells.{split}

-- the entry of each word, if it has one
unfoldable pub entry_at : {T : Type 0} → WordTable T → ℕ → Option T
entry_at t w = entry_in t.entries.items (place_of (paged_bytes t.index.directory.items t.index.bytes.items) w)

-- ---- rows of four cells

-- the four cells of a word: those that were put singly, or else those of a value
abbrev pub row_in : Option (List Cell) → Option Val → Option (List Cell)
row_in (Some cells) value = Some cells
row_in None (Some value) = Some (split value)
row_in None None = None

-- a cell of a row
abbrev pub cell_in : Option (List Cell) → ℕ → Option Cell
cell_in None k = None
cell_in (Some cells) k = Some (slice_index_or cells k Mist)

-- the row of each word
abbrev pub rows_of : WordTable Val → WordTable (List Cell) → ℕ → Option (List Cell)
rows_of values cells = λ w. row_in (entry_at cells w) (entry_at values w)

-- the cell at each address whose word has a row
abbrev pub cells_in : (ℕ → Option (List Cell)) → ℕ → Option Cell
cells_in rows = λ a. cell_in (rows (a / 4)) (a % 4)

-- one word has got a row, and no other has changed
abbrev pub HasRow : (ℕ → Option (List Cell)) → (ℕ → Option (List Cell)) → ℕ → List Cell → Type 0
HasRow old new at row = (w : ℕ) → new w ≡ (if w == at / 4 then Some row else old w)
