-- What is counted of the blocks of a piece by which control enters a region.
use Rattle.std.specs.Prelude.{◌≡◌, ℕ, ◌+◌, ◌*◌, ◌≤◌, Bool, true, false, List, length, slice_index_or, if◌then◌else◌}
use Rattle.list_checks.specs.Sorted.{sum_below}
use Rattle.object_graph.specs.declared.parts.Graph.{Graph}
use Rattle.code_blocks.specs.declared.parts.Code.{Code}
use Rattle.region_former.specs.declared.table.RegionTable.{RegionTable}
use Rattle.profile_runner.specs.declared.counts.Profile.{Profile}
use Rattle.block_splitter.specs.declared.block_range.BlockRange.{BlockRange}
use Rattle.block_splitter.specs.Forms.{body_at, unit_in, is_site, kind_of, holds_block, displaced_words}
use Rattle.energy_model.specs.Energy.{may_stay}
use Rattle.energy_model.specs.Copied.{arrivals_in, leaving, pending, sum_in, came_to}
use Rattle.energy_model.specs.Counts.{most_run, CountsCode, AreBlockCounts}
use Rattle.energy_model.specs.OverlayCost.{CountsOverlay}
use Rattle.energy_model.specs.declared.block_counts.BlockCounts.{BlockCounts}
use Rattle.energy_model.specs.Overlay.{first_runs, is_entered, entered_words}
use Rattle.energy_model.specs.declared.entering_counts.EnteringCounts.{EnteringCounts}
use Rattle.energy_model.specs.declared.entering_counts.EnteringSums.{EnteringSums}

-- ---- a block

-- the words of the first unit of block `b`, as often as it ran: displaced, and at home
abbrev pub displaced_of : Code → Graph → Profile → ℕ → ℕ
displaced_of c g q b = first_runs q b * displaced_words (kind_of (is_site g) (body_at c.blocks.items b) 0)

abbrev pub first_of : Code → Profile → ℕ → ℕ
first_of c q b = first_runs q b * (unit_in (body_at c.blocks.items b) 0).words

-- where control enters a region by block `b`
abbrev pub if_border : List Bool → (ℕ → ℕ) → ℕ → ℕ
if_border borders value b = if slice_index_or borders b false then value b else 0

-- and by no block of a piece
abbrev pub IsBare : List Bool → BlockRange → Type 0
IsBare borders piece = (b : ℕ) → holds_block b piece ≡ true → slice_index_or borders b false ≡ false

-- block `b` of a piece is such a block
abbrev pub entered_in : List Bool → BlockRange → ℕ → ℕ
entered_in borders piece b = if is_entered borders piece b then 1 else 0

-- how often control went from block `a` of a piece to blocks of it by which control enters a region, and may have stayed
abbrev pub stays_entered : Code → Profile → List Bool → BlockRange → ℕ → ℕ
stays_entered c q borders piece a =
    if may_stay (body_at c.blocks.items a).end then leaving q.edges.items a (entered_in borders piece) else 0

-- ---- conditions

pub record AreRunTables (c : Code) (g : Graph) (t : RegionTable) (q : Profile) (counts : BlockCounts) : Type 0 where
  pub code : CountsCode c g q
  pub blocks : AreBlockCounts c g q counts
  pub overlay : CountsOverlay c t g q

-- ---- results

pub record IsEnteringCount (c : Code) (g : Graph) (q : Profile) (borders : List Bool) (piece : BlockRange) (counts : EnteringCounts) : Type 0 where
  pub checks : counts.checks ≡ sum_below (λ b. if is_entered borders piece b then arrivals_in q b else 0) (length c.blocks.items)
  pub displaced : counts.displaced ≡ sum_below (λ b. if is_entered borders piece b then displaced_of c g q b else 0) (length c.blocks.items)
  pub first : counts.first ≡ entered_words c q borders piece
  pub came : counts.came ≡ came_to c q piece (is_entered borders piece)
  pub small_checks : counts.checks ≤ most_run
  pub small_displaced : counts.displaced ≤ most_run
  pub small_first : counts.first ≤ most_run
  pub small_came : counts.came ≤ 2 * most_run

-- ---- steps

-- the blocks of a piece before block `n`
pub record AreEntering (c : Code) (g : Graph) (q : Profile) (borders : List Bool) (piece : BlockRange) (n : ℕ) (sums : EnteringSums) : Type 0 where
  pub checks : sums.checks ≡ sum_in piece (if_border borders (arrivals_in q)) n
  pub displaced : sums.displaced ≡ sum_in piece (if_border borders (displaced_of c g q)) n
  pub first : sums.first ≡ sum_in piece (if_border borders (first_of c q)) n
  pub pending : sums.pending ≡ sum_in piece (if_border borders (pending c q)) n
  pub stayed : sums.stayed ≡ sum_in piece (stays_entered c q borders piece) n

-- block `b`
pub record IsEnteringBlock (c : Code) (g : Graph) (q : Profile) (borders : List Bool) (piece : BlockRange) (b : ℕ) (sums : EnteringSums) : Type 0 where
  pub checks : sums.checks ≡ if_border borders (arrivals_in q) b
  pub displaced : sums.displaced ≡ if_border borders (displaced_of c g q) b
  pub first : sums.first ≡ if_border borders (first_of c q) b
  pub pending : sums.pending ≡ if_border borders (pending c q) b
  pub stayed : sums.stayed ≡ stays_entered c q borders piece b

pub record AreEnteringAdded (old more new : EnteringSums) : Type 0 where
  pub checks : new.checks ≡ old.checks + more.checks
  pub displaced : new.displaced ≡ old.displaced + more.displaced
  pub first : new.first ≡ old.first + more.first
  pub pending : new.pending ≡ old.pending + more.pending
  pub stayed : new.stayed ≡ old.stayed + more.stayed

pub record AreFewEntering (sums : EnteringSums) : Type 0 where
  pub checks : sums.checks ≤ most_run
  pub displaced : sums.displaced ≤ most_run
  pub first : sums.first ≤ most_run
  pub pending : sums.pending ≤ most_run
  pub stayed : sums.stayed ≤ 2 * most_run
