-- Copies of pieces of code, each at its place.
use Rattle.std.specs.Prelude.{◌≡◌, ℕ, ◌+◌, ◌*◌, ◌%◌, ◌<◌, ◌==◌, nat_lt, Bool, ◌&&◌, ◌||◌, List, length, map, slice_index_or}
use Rattle.std.specs.List.{All}
use Rattle.elf_reader.specs.File.{PlainView}
use Rattle.object_graph.specs.Lookups.{IsSomeGraph}
use Rattle.object_graph.specs.declared.parts.Graph.{Graph}
use Rattle.code_blocks.specs.Blocks.{IsCode}
use Rattle.code_blocks.specs.declared.parts.Code.{Code}
use Rattle.dataflow.specs.Tables.{IsTableOf}
use Rattle.block_splitter.specs.declared.block_range.BlockRange.{BlockRange}
use Rattle.block_splitter.specs.Forms.{is_site, copy_words}
use Rattle.block_splitter.specs.Pieces.{IsCopied, ArePieces}
use Rattle.block_splitter.specs.Copies.{Copy, HasSites, IsCopy}
use Rattle.relink_core.specs.declared.copy_source.CopySource.{CopySource}
use Rattle.relink_core.specs.declared.placed_copy.PlacedCopy.{PlacedCopy}

-- ---- what is known

-- the code, its live registers, its graph and its pieces are those of one program, and each site has a word
pub record IsSource (s : CopySource) : Type 0 where
  pub view : PlainView
  pub code : IsCode view s.code.now
  pub live : IsTableOf s.code.now s.live.now
  pub graph : IsSomeGraph s.graph.now
  pub pieces : ArePieces s.code.now s.graph.now s.pieces.now
  pub sites : HasSites s.code.now s.graph.now s.sites.now

-- one range comes before another: by first block, and then by last
abbrev pub comes_before : BlockRange → BlockRange → Bool
comes_before r s = nat_lt r.first s.first || ((r.first == s.first) && nat_lt r.last s.last)

-- ---- places

-- a piece may be copied to an address: that of a word, and the copy ends below 2 ^ 32
pub record CanPlace (c : Code) (g : Graph) (range : BlockRange) (at : ℕ) : Type 0 where
  pub copied : IsCopied c g range
  pub aligned : at % 4 ≡ 0
  pub ends : at + 4 * copy_words (is_site g) c.blocks.items range < 4294967296

abbrev pub no_range : BlockRange
no_range = record { first = 0; last = 0 }

abbrev pub range_at : List BlockRange → ℕ → BlockRange
range_at ranges k = slice_index_or ranges k no_range

abbrev pub CanPlaceAll : Code → Graph → List BlockRange → List ℕ → Type 0
CanPlaceAll c g ranges places =
    (k : ℕ) → k < length ranges → CanPlace c g (range_at ranges k) (slice_index_or places k 0)

-- ---- copies

abbrev pub copied_in : CopySource → PlacedCopy → Copy
copied_in s x =
    record { code = s.code.now; graph = s.graph.now; range = x.range; at = x.at; sites = s.sites.now }

-- the copy of a piece that may stand where it does
pub record IsPlacedCopy (s : CopySource) (x : PlacedCopy) : Type 0 where
  pub can : CanPlace s.code.now s.graph.now x.range x.at
  pub copy : IsCopy (copied_in s x) x.code.words.items x.code.starts.items

abbrev pub range_in : PlacedCopy → BlockRange
range_in x = x.range

abbrev pub place_in : PlacedCopy → ℕ
place_in x = x.at

pub record IsPlacedAt (s : CopySource) (range : BlockRange) (at : ℕ) (x : PlacedCopy) : Type 0 where
  pub blocks : range_in x ≡ range
  pub stands : place_in x ≡ at
  pub is : IsPlacedCopy s x

-- those of some ranges, at some places, in order
pub record ArePlacedCopies (s : CopySource) (ranges : List BlockRange) (places : List ℕ) (xs : List PlacedCopy) : Type 0 where
  pub blocks : map range_in xs ≡ ranges
  pub stand : map place_in xs ≡ places
  pub each : All (IsPlacedCopy s) xs
