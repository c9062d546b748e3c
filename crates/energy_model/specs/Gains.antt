-- What items save where there is overlay, as it is counted from the tables of a profile.
use Rattle.std.specs.Prelude.{ℕ, ◌+◌, ◌*◌, ◌<◌, ◌≤◌, ℤ, pos, ◌-ℤ◌, Bool, true, false, List, length, slice_index_or, if◌then◌else◌}
use Rattle.board_config.specs.declared.board.Prices.{Prices}
use Rattle.object_graph.specs.declared.parts.Graph.{Graph}
use Rattle.object_graph.specs.declared.parts.Object.{Object}
use Rattle.code_blocks.specs.declared.parts.Code.{Code}
use Rattle.profile_runner.specs.Counts.{plain_rows, row_of, entry}
use Rattle.profile_runner.specs.declared.counts.Profile.{Profile}
use Rattle.block_splitter.specs.declared.block_range.BlockRange.{BlockRange}
use Rattle.energy_model.specs.Energy.{arrival_price, object_rounds, into_price, back_price}
use Rattle.energy_model.specs.Copied.{home_words}
use Rattle.energy_model.specs.Counts.{most_run}
use Rattle.energy_model.specs.Overlay.{reads_in, writes_in, accesses_price, of_both, outer_enters, outer_leaves, entering_price, entered_words, copied_price}
use Rattle.energy_model.specs.declared.block_counts.PieceCounts.{PieceCounts}
use Rattle.energy_model.specs.declared.entering_counts.EnteringCounts.{EnteringCounts}
use Rattle.energy_model.specs.declared.object_counts.ObjectCounts.{ObjectCounts}

-- ---- objects

-- an object in region `r`
abbrev pub overlaid_counts : Profile → ℕ → ℕ → ObjectCounts
overlaid_counts q o r =
    record {
      reads = reads_in q o r;
      writes = writes_in q o r;
      enters = slice_index_or q.enters.items r 0;
      leaves = slice_index_or q.leaves.items r 0;
    }

-- an object for a pair of twins
abbrev pub kept_counts : Profile → ℕ → ℕ → ObjectCounts
kept_counts q o pair =
    record {
      reads = of_both (reads_in q o) pair;
      writes = of_both (writes_in q o) pair;
      enters = outer_enters q pair;
      leaves = outer_leaves q pair;
    }

-- the tables have a place for an object in a region, with small counts
pub record HasPlace (q : Profile) (o r : ℕ) : Type 0 where
  pub read_row : o < length q.reads.items
  pub read_column : r < length (row_of (plain_rows q.reads.items) o)
  pub write_row : o < length q.writes.items
  pub write_column : r < length (row_of (plain_rows q.writes.items) o)
  pub enter : r < length q.enters.items
  pub leave : r < length q.leaves.items
  pub reads : reads_in q o r ≤ 1000000000
  pub writes : writes_in q o r ≤ 1000000000
  pub enters : slice_index_or q.enters.items r 0 ≤ 1000000000
  pub leaves : slice_index_or q.leaves.items r 0 ≤ 1000000000

-- and for changes from one region to another
pub record HasSwitches (q : Profile) (s r : ℕ) : Type 0 where
  pub row : s < length q.switches.items
  pub column : r < length (row_of (plain_rows q.switches.items) s)
  pub small : entry (plain_rows q.switches.items) s r ≤ 1000000000

-- so many copies of an object into the scratchpad, and back where it is writable
abbrev pub object_copied : Prices → Object → ℕ → ℕ → ℕ
object_copied prices o enters leaves =
    enters * into_price prices (object_rounds o) + leaves * (if o.writable then back_price prices (object_rounds o) else 0)

abbrev pub object_saves : Prices → Object → ObjectCounts → ℤ
object_saves prices o counts =
    pos (accesses_price prices false counts.reads counts.writes)
    -ℤ pos (accesses_price prices true counts.reads counts.writes + object_copied prices o counts.enters counts.leaves)

-- what is counted is small
pub record AreSmallCounts (counts : ObjectCounts) : Type 0 where
  pub reads : counts.reads ≤ 2000000000
  pub writes : counts.writes ≤ 2000000000
  pub enters : counts.enters ≤ 2000000000
  pub leaves : counts.leaves ≤ 2000000000

-- ---- pieces

pub record AreFewPieceCounts (counts : PieceCounts) : Type 0 where
  pub home : counts.home ≤ most_run
  pub copied : counts.copied ≤ most_run
  pub came : counts.came ≤ 2 * most_run

pub record AreFewEnteringCounts (counts : EnteringCounts) : Type 0 where
  pub checks : counts.checks ≤ most_run
  pub displaced : counts.displaced ≤ most_run
  pub first : counts.first ≤ most_run
  pub came : counts.came ≤ 2 * most_run

-- what a piece costs at home, of which this is counted, and in the scratchpad with its first units at home
abbrev pub home_cost : Prices → PieceCounts → EnteringCounts → ℕ
home_cost prices piece entering =
    piece.home * prices.main_fetch + (entering.checks * arrival_price prices false true + entering.displaced * prices.main_fetch)

abbrev pub copied_cost : Prices → PieceCounts → EnteringCounts → ℕ
copied_cost prices piece entering =
    entering.first * prices.main_fetch
    + (piece.copied * prices.spm_fetch
    + piece.came * (3 * prices.main_fetch)
    + entering.came * (4 * prices.main_fetch + prices.main_read))

-- a piece, whose copies cost so much
abbrev pub piece_saves : Code → Graph → Prices → Profile → List Bool → BlockRange → ℕ → ℤ
piece_saves c g prices q borders piece copies =
    pos (home_words c g q piece * prices.main_fetch + entering_price c g prices q borders piece)
    -ℤ pos (entered_words c q borders piece * prices.main_fetch + copied_price c g prices q borders piece + copies)
