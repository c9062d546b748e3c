-- The cells that stores put stand for the bytes of the word.
use Rattle.std.proofs.Common.{◌≡◌, ℕ, zero, suc, ◌%◌, ◌<◌, Option, Some, None, refl, arith, slice_index_or}
use Rattle.rv32im.specs.Words.{byte_of}
use Rattle.cell_values.specs.Objects.{Objects}
use Rattle.cell_values.specs.Cells.{split}
use Rattle.cell_values.specs.declared.values.Val.{Val}
use Rattle.cell_values.specs.declared.values.Val.TheVariants.{Int, Addr, Hi, Low, Piece, Unknown}
use Rattle.cell_values.specs.declared.values.Cell.TheVariants.{Mist}
use Rattle.cell_values.specs.Origins.{Origin}
use Rattle.cell_values.specs.Stands.{Places, Uppers, IsByte, Is, Stands, CellStands, address_word}
use Rattle.cell_values.specs.WordLaws.{SplitStands}

-- each byte of a word is one of four
pub first_cells : (P : ℕ → Type 0) → P 0 → P 1 → P 2 → P 3 → (k : ℕ) → k < 4 → P k
first_cells P at_0 at_1 at_2 at_3 zero below = at_0
first_cells P at_0 at_1 at_2 at_3 (suc zero) below = at_1
first_cells P at_0 at_1 at_2 at_3 (suc (suc zero)) below = at_2
first_cells P at_0 at_1 at_2 at_3 (suc (suc (suc zero))) below = at_3
first_cells P at_0 at_1 at_2 at_3 (suc (suc (suc (suc k)))) below = absurd (omega arith)

-- a value of which all cells are parts of one word
parts_stand : (known : Option ℕ) (w k : ℕ) → Is known w → IsByte known k (byte_of w k)
parts_stand (Some x) w k is = rw is refl
parts_stand None w k is = tt

split_at : (os : Objects) (place : Places) (up : Uppers) (m : Origin) (x : Val) (w : ℕ) → w < 4294967296 → Stands os place up m x w → (k : ℕ) → k < 4 → CellStands place up m (slice_index_or (split x) k Mist) (byte_of w k)
split_at os place up m (Int n) w word stands =
    first_cells (λ k. CellStands place up m (slice_index_or (split (Int n)) k Mist) (byte_of w k))
    (rw stands refl) (rw stands refl) (rw stands refl) (rw stands refl)
split_at os place up m (Addr o d) w word stands =
    let known = Some (address_word place o d) in
    first_cells (λ k. CellStands place up m (slice_index_or (split (Addr o d)) k Mist) (byte_of w k))
    (parts_stand known w 0 stands) (parts_stand known w 1 stands) (parts_stand known w 2 stands)
    (parts_stand known w 3 stands)
split_at os place up m (Hi o d) w word stands =
    let known = up m o d in
    first_cells (λ k. CellStands place up m (slice_index_or (split (Hi o d)) k Mist) (byte_of w k))
    (parts_stand known w 0 stands) (parts_stand known w 1 stands) (parts_stand known w 2 stands)
    (parts_stand known w 3 stands)
split_at os place up m (Piece hi o d j) w word stands =
    let least : byte_of w 0 ≡ w % 256 = omega arith in
    first_cells (λ k. CellStands place up m (slice_index_or (split (Piece hi o d j)) k Mist) (byte_of w k))
    (rw least stands) tt tt tt
split_at os place up m (Low n) w word stands =
    first_cells (λ k. CellStands place up m (slice_index_or (split (Low n)) k Mist) (byte_of w k)) tt tt tt tt
split_at os place up m Unknown w word stands =
    first_cells (λ k. CellStands place up m (slice_index_or (split Unknown) k Mist) (byte_of w k)) tt tt tt tt

pub split_stands : SplitStands
split_stands os place up m x w k word below stands = split_at os place up m x w word stands k below
