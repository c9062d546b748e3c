-- What objects save, and the programme, as they are counted from the tables of a profile.
use Rattle.std.specs.Prelude.{◌≡◌, ℕ, zero, suc, ◌+◌, ◌-◌, ◌*◌, ◌/◌, ◌^◌, ◌<◌, ◌≤◌, ℤ, pos, ◌-ℤ◌, List, [], ◌∷◌, ◌++◌, map, length, slice_index_or, replicate, if◌then◌else◌}
use Rattle.std.specs.List.{All}
use Rattle.board_config.specs.declared.board.Board.{Board}
use Rattle.board_config.specs.declared.board.Prices.{Prices}
use Rattle.object_graph.specs.declared.parts.Object.{Object}
use Rattle.object_graph.specs.declared.parts.Graph.{Graph}
use Rattle.code_blocks.specs.declared.parts.Code.{Code}
use Rattle.block_splitter.specs.declared.piece.Piece.{Piece}
use Rattle.block_splitter.specs.Pieces.{range_of}
use Rattle.cell_values.specs.Objects.{object_of, datum_of}
use Rattle.placement_programme.specs.declared.variables.VarName.TheVariants.{StaticData, StaticCode}
use Rattle.placement_programme.specs.Plain.{PlainFullVar, PlainFullSide}
use Rattle.placement_programme.specs.Bounds.{IsWithinFullBounds}
use Rattle.placement_programme.specs.Rows.{data_span, off_space_row, off_patch_row, off_block_row, job_bytes, rounded_up, in_rows}
use Rattle.profile_runner.specs.Counts.{plain_rows, row_of}
use Rattle.list_checks.specs.Sorted.{sum_below}
use Rattle.profile_runner.specs.declared.counts.Profile.{Profile}
use Rattle.energy_model.specs.Energy.{into_price, object_rounds, fence_words}
use Rattle.energy_model.specs.Base.{CountsEnergy, IsCounted}
use Rattle.energy_model.specs.Copied.{home_words, copy_words_run, came_in}
use Rattle.energy_model.specs.Counts.{CountsCode, MayCount, AreBlockCounts}
use Rattle.energy_model.specs.declared.block_counts.BlockCounts.{BlockCounts}

-- ---- what objects save

-- the counts of a row
abbrev pub total : List ℕ → ℕ
total row = sum_below (λ r. slice_index_or row r 0) (length row)

abbrev pub reads_of : Profile → ℕ → ℕ
reads_of q k = total (row_of (plain_rows q.reads.items) k)

abbrev pub writes_of : Profile → ℕ → ℕ
writes_of q k = total (row_of (plain_rows q.writes.items) k)

-- so many reads and writes of an object, at home and in the scratchpad with its copy there
abbrev pub home_price : Prices → ℕ → ℕ → ℕ
home_price prices reads writes = reads * prices.main_read + writes * prices.main_write

abbrev pub moved_price : Prices → ℕ → ℕ → Object → ℕ
moved_price prices reads writes o =
    reads * prices.spm_read + writes * prices.spm_write + into_price prices (object_rounds o)

abbrev pub counted_gain : Prices → Profile → Graph → ℕ → ℤ
counted_gain prices q g k =
    pos (home_price prices (reads_of q k) (writes_of q k))
    -ℤ pos (moved_price prices (reads_of q k) (writes_of q k) (object_of g k))

-- the variable of object `k`, and those of the first objects
abbrev pub counted_var : Prices → Profile → Graph → ℕ → ℕ → PlainFullVar
counted_var prices q g grain k =
    record {
      name = StaticData k;
      gain = counted_gain prices q g k;
      weights = (off_space_row, data_span grain (datum_of g k)) ∷ (off_patch_row, job_bytes) ∷ [];
    }

abbrev pub counted_vars : Prices → Profile → Graph → ℕ → ℕ → List PlainFullVar
counted_vars prices q g grain zero = []
counted_vars prices q g grain (suc n) = counted_vars prices q g grain n ++ counted_var prices q g grain n ∷ []

-- the counts of objects are small, and there is a row for each
pub record CountsAccesses (g : Graph) (q : Profile) : Type 0 where
  pub few : length g.objects.items ≤ 2 ^ 32
  pub read_rows : length q.reads.items ≡ length g.objects.items
  pub write_rows : length q.writes.items ≡ length g.objects.items
  pub reads : (k : ℕ) → k < length g.objects.items → reads_of q k ≤ 1000000000
  pub writes : (k : ℕ) → k < length g.objects.items → writes_of q k ≤ 1000000000

-- ---- what pieces save

-- so many words in a copy, and arrivals from outside, with the copy job of so many rounds
abbrev pub copied_price : Prices → ℕ → ℕ → ℕ → ℕ
copied_price prices copied came rounds =
    copied * prices.spm_fetch + came * (3 * prices.main_fetch) + into_price prices rounds

abbrev pub counted_code_gain : Prices → Profile → Code → Graph → Piece → ℤ
counted_code_gain prices q c g p =
    pos (home_words c g q (range_of p) * prices.main_fetch)
    -ℤ pos (copied_price prices (copy_words_run c g q (range_of p)) (came_in c q (range_of p)) (p.bytes / 4))

-- its space, its patch bytes with a stub for each entry, and its blocks
abbrev pub piece_weights : ℕ → Piece → List (ℕ × ℕ)
piece_weights grain p =
    (off_space_row, rounded_up grain p.bytes) ∷ (off_patch_row, job_bytes + p.bytes + 8 * length p.entries.items)
    ∷ in_rows (off_block_row p.first) (p.last + 1 - p.first) 1

abbrev pub counted_code_var : Prices → Profile → Code → Graph → ℕ → Piece → PlainFullVar
counted_code_var prices q c g grain p =
    record {
      name = StaticCode p.first p.last;
      gain = counted_code_gain prices q c g p;
      weights = piece_weights grain p;
    }

-- the tables are of this code, and the blocks of it were counted
pub record AreTables (c : Code) (g : Graph) (q : Profile) (counts : BlockCounts) : Type 0 where
  pub code : CountsCode c g q
  pub blocks : AreBlockCounts c g q counts

-- a piece is of blocks of this code
pub record CanCountPiece (c : Code) (p : Piece) : Type 0 where
  pub range : MayCount c (range_of p)
  pub few : p.last < 65536
  pub entries : length p.entries.items ≤ 65536
  pub bytes : p.bytes ≤ 4096

-- ---- the side on which nothing is overlaid

abbrev pub stub_price : Board → ℕ
stub_price board = (5 + fence_words board) * board.prices.main_fetch

abbrev pub start_size : Board → ℕ
start_size board = 84 + (if board.fence_i then 4 else 0)

abbrev pub counted_rows : Board → ℕ → List ℕ
counted_rows board blocks = board.spm.size ∷ (board.patch.size - start_size board) ∷ replicate blocks 1

abbrev pub counted_static : Board → Profile → Code → Graph → List Piece → List PlainFullVar
counted_static board q c g pieces =
    counted_vars board.prices q g board.grain (length g.objects.items)
    ++ map (counted_code_var board.prices q c g board.grain) pieces

abbrev pub counted_side : Board → Profile → Code → Graph → List Piece → PlainFullSide
counted_side board q c g pieces =
    record {
      fixed = stub_price board;
      rows = counted_rows board (length c.blocks.items);
      vars = counted_static board q c g pieces;
    }

-- ---- all that is asked of the parts of a programme

pub record CanCount (g : Graph) (c : Code) (pieces : List Piece) (board : Board) (q : Profile) : Type 0 where
  pub energy : CountsEnergy board.prices c.blocks.items q
  pub accesses : CountsAccesses g q
  pub code : CountsCode c g q
  pub countable : All (CanCountPiece c) pieces
  pub patch : start_size board ≤ board.patch.size
  pub grain : 0 < board.grain
  pub base : (energy : ℕ) → IsCounted board.prices c.blocks.items q energy → energy < 2 ^ 90
  pub side : IsWithinFullBounds (counted_side board q c g pieces)
