-- The numbers of blocks, and to which of them direct edges lead.
use Rattle.std.specs.Prelude.{◌≡◌, ℕ, ◌<◌, false, List, map, length, slice_index, slice_index_or, Option, MatchOption}
use Rattle.std.specs.List.{All, filter}
use Rattle.std.specs.List.Sorted.{IsStrictlyIncreasing}
use Rattle.code_blocks.specs.Early.{has}
use Rattle.code_blocks.specs.Blocks.{start_of}
use Rattle.code_blocks.specs.declared.ends.End.{End}
use Rattle.code_blocks.specs.declared.ends.End.TheVariants.{Stop}
use Rattle.code_blocks.specs.declared.parts.Block.{Block}
use Rattle.code_blocks.specs.declared.parts.Code.{Code}

-- the starts of all blocks, and that of block `k`
abbrev pub starts_of : Code → List ℕ
starts_of c = map start_of c.blocks.items

abbrev pub start_at : Code → ℕ → ℕ
start_at c k = slice_index (starts_of c) k

-- blocks ascend by their starts
abbrev pub Ascends : Code → Type 0
Ascends c = IsStrictlyIncreasing (starts_of c)

-- the end of block `k`
abbrev pub ending_of : Block → End
ending_of b = b.end

abbrev pub end_at : Code → ℕ → End
end_at c k = slice_index_or (map ending_of c.blocks.items) k Stop

-- the number of the block at `a`: none begins there, or that one does
abbrev pub IsNumberAt : Code → ℕ → Option ℕ → Type 0
IsNumberAt c a o = MatchOption o (has (starts_of c) a ≡ false) (λ k. (k < length c.blocks.items) × (start_at c k ≡ a))

-- numbers of blocks, which begin at those of the addresses at which blocks do, in their order
pub record AreNumbersAt (c : Code) (addresses numbers : List ℕ) : Type 0 where
  pub starts : map (start_at c) numbers ≡ filter (has (starts_of c)) addresses
  pub below : All (λ k. k < length c.blocks.items) numbers
