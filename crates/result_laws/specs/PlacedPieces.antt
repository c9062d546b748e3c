-- Pieces of code that are taken into the scratchpad.
use Rattle.std.specs.Prelude.{◌≡◌, ℕ, ◌*◌, true, List, length}
use Rattle.block_splitter.specs.declared.block_range.BlockRange.{BlockRange}
use Rattle.block_splitter.specs.Forms.{holds_block}

-- a piece of code that is taken: which blocks, where its copy stands in the scratchpad and its image in the patch range,
-- the words of the copy, and how many bytes from its beginning its blocks begin
pub record PlacedPiece : Type 0 where
  pub range : BlockRange
  pub at : ℕ
  pub image : ℕ
  pub words : List ℕ
  pub starts : List ℕ

abbrev pub piece_bytes : PlacedPiece → ℕ
piece_bytes x = 4 * length x.words

-- two ranges of blocks have no block in common
abbrev pub HaveOtherBlocks : PlacedPiece → PlacedPiece → Type 0
HaveOtherBlocks x y = (b : ℕ) → holds_block b x.range ≡ true → holds_block b y.range ≡ true → ⊥
