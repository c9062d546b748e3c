-- What loads and stores do with cells.
use Rattle.std.specs.Prelude.{ℕ, ◌+◌, List, [], ◌∷◌, take, Option, Some, None}
use Rattle.rv32im.specs.Words.{sign_extended}
use Rattle.rv32im.specs.Acts.{store_width}
use Rattle.rv32im.specs.declared.instructions.LoadKind.{LoadKind}
use Rattle.rv32im.specs.declared.instructions.LoadKind.TheVariants.{Lb, Lh, Lw, Lbu, Lhu}
use Rattle.rv32im.specs.declared.instructions.StoreKind.{StoreKind}
use Rattle.cell_values.specs.Cells.{split, join, byte_value, half_value, put_at, put_cells}
use Rattle.cell_values.specs.declared.values.Val.{Val}
use Rattle.cell_values.specs.declared.values.Cell.{Cell}
use Rattle.cell_values.specs.declared.values.Cell.TheVariants.{Mist}
use Rattle.object_machine.specs.State.{SourceState}
use Rattle.object_machine.specs.Places.{Where, InFixed, InObject, Nowhere}

-- the cell `i` bytes behind a place
abbrev pub cell_at : SourceState → Where → ℕ → Cell
cell_at s (InFixed a) i = s.fixed (a + i)
cell_at s (InObject o d) i = s.cells o (d + i)
cell_at s (Nowhere why) i = Mist

-- how bytes and halfwords are extended
abbrev pub signed_byte : ℕ → ℕ
signed_byte b = sign_extended b 8

abbrev pub signed_half : ℕ → ℕ
signed_half b = sign_extended b 16

abbrev pub same_number : ℕ → ℕ
same_number b = b

-- the value that a load takes from a place
abbrev pub loaded_value : LoadKind → SourceState → Where → Val
loaded_value Lb s w = byte_value signed_byte (cell_at s w 0)
loaded_value Lbu s w = byte_value same_number (cell_at s w 0)
loaded_value Lh s w = half_value signed_half (cell_at s w 0) (cell_at s w 1)
loaded_value Lhu s w = half_value same_number (cell_at s w 0) (cell_at s w 1)
loaded_value Lw s w = join (cell_at s w 0) (cell_at s w 1) (cell_at s w 2) (cell_at s w 3)

abbrev pub stored_at : SourceState → Where → List Cell → SourceState
stored_at s (InFixed a) cs = record s { fixed = put_cells s.fixed a cs }
stored_at s (InObject o d) cs = record s { cells = put_at s.cells o (put_cells (s.cells o) d cs) }
stored_at s (Nowhere why) cs = s

-- the cells that a store of this kind puts: the first of the value's
abbrev pub stored_cells : StoreKind → Val → List Cell
stored_cells kind x = take (store_width kind) (split x)
