-- The cells of a store: those of its rows, and bytes elsewhere.
use Rattle.std.specs.Prelude.{◌≡◌, ◌⊎◌, ℕ, ◌/◌, Bool, IsTrue, IsSome, List, Option, Some, None}
use Rattle.rv32im.specs.Memory.{Memory}
use Rattle.paged_store.specs.Pages.{paged_bytes, has_page}
use Rattle.cell_values.specs.declared.values.Cell.{Cell}
use Rattle.cell_values.specs.declared.values.Cell.TheVariants.{Byte, Part, Mist}
use Rattle.cell_values.specs.declared.values.Val.{Val}
use Rattle.cell_values.specs.declared.store.CellStore.{CellStore}
use Rattle.cell_values.specs.Rows.{entry_at, rows_of, cells_in}

-- a cell that there is, or else a byte
abbrev pub cell_or : Option Cell → ℕ → Cell
cell_or None byte = Byte byte
cell_or (Some cell) byte = cell

-- the cells of a table where it has them, and bytes elsewhere
abbrev pub cells_over : (ℕ → Option Cell) → Memory → ℕ → Cell
cells_over table mem = λ a. cell_or (table a) (mem a)

-- the cell at each address
abbrev pub cells_of : CellStore → ℕ → Cell
cells_of s = cells_over (cells_in (rows_of s.values s.cells)) (paged_bytes s.bytes.directory.items s.bytes.bytes.items)

-- a cell can be put at an address without taking memory: its word has cells that were put singly, or the cell is a byte, and
-- its word has bytes alone and a page
abbrev pub CanPut : (ℕ → Option Val) → (ℕ → Option (List Cell)) → (ℕ → Bool) → ℕ → Cell → Type 0
CanPut values cells pages a (Byte byte) = IsSome (cells (a / 4)) ⊎ ((values (a / 4) ≡ None) × IsTrue (pages a))
CanPut values cells pages a (Part hi o d k) = IsSome (cells (a / 4))
CanPut values cells pages a Mist = IsSome (cells (a / 4))

abbrev pub HasPlace : CellStore → ℕ → Cell → Type 0
HasPlace s a cell = CanPut (entry_at s.values) (entry_at s.cells) (has_page s.bytes.directory.items) a cell
