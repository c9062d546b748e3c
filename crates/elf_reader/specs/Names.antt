-- The index of a string table, by which the end of a name is found.
use Rattle.std.specs.Prelude.{◌≡◌, ℕ, ◌+◌, ◌*◌, ◌/◌, ◌<◌, min, List, length, slice_index, drop}
use Rattle.std.specs.List.{position_or_len}
use Rattle.elf_reader.specs.Sections.{is_zero}

-- the place of the first zero byte at or behind `start`; the table's length where there is none
unfoldable pub zero_from : List ℕ → ℕ → ℕ
zero_from table start = start + position_or_len is_zero (drop start table)

-- where block `block` of 256 bytes begins in a table of `size` bytes; its end behind the last block
abbrev pub block_start : ℕ → ℕ → ℕ
block_start size block = min (256 * block) size

-- the index has, for each block and for the table's end, the first zero byte at or behind it
pub record IsIndexOf (table zeros : List ℕ) : Type 0 where
  pub count : length zeros ≡ length table / 256 + 2
  pub entry : (k : ℕ) → k < length zeros → slice_index zeros k ≡ zero_from table (block_start (length table) k)
