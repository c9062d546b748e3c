-- What is asked of the tables of a profile, so that pieces can be counted, and what is counted of blocks and of pieces.
use Rattle.std.specs.Prelude.{◌≡◌, ℕ, suc, ◌+◌, ◌*◌, ◌/◌, ◌<◌, ◌≤◌, ◌==◌, Bool, true, false, List, length, slice_index_or, if◌then◌else◌}
use Rattle.std.specs.List.{All, AllPairs}
use Rattle.std.specs.List.Sorted.{IsStrictlyIncreasing}
use Rattle.object_graph.specs.Lookups.{IsSomeGraph}
use Rattle.object_graph.specs.declared.parts.Graph.{Graph}
use Rattle.code_blocks.specs.Early.{has}
use Rattle.code_blocks.specs.Edges.{successors}
use Rattle.code_blocks.specs.Numbers.{starts_of, start_at}
use Rattle.code_blocks.specs.declared.parts.Code.{Code}
use Rattle.code_blocks.specs.declared.ends.End.{End}
use Rattle.profile_runner.specs.Counts.{precedes}
use Rattle.list_checks.specs.Sorted.{sum_below}
use Rattle.profile_runner.specs.declared.counts.Edge.{Edge}
use Rattle.profile_runner.specs.declared.counts.Profile.{Profile}
use Rattle.block_splitter.specs.declared.block_range.BlockRange.{BlockRange}
use Rattle.block_splitter.specs.declared.unit_kind.UnitKind.{UnitKind}
use Rattle.block_splitter.specs.declared.unit_kind.UnitKind.TheVariants.{Branch, Jump}
use Rattle.block_splitter.specs.Forms.{body_at, holds_block}
use Rattle.block_splitter.specs.Pieces.{IsRange}
use Rattle.energy_model.specs.declared.block_counts.BlockCounts.{BlockCounts}
use Rattle.energy_model.specs.declared.block_counts.PieceCounts.{PieceCounts}
use Rattle.energy_model.specs.declared.block_counts.PieceSums.{PieceSums}
use Rattle.energy_model.specs.Stretches.{AreStretches}
use Rattle.energy_model.specs.Copied.{arrivals_in, block_words, count_to, edge_in, coming, sum_in, home_words, copied_words_of, copy_words_run, stays_of, stayed, pending, pending_inside, came_in, values, edges_before}

-- ---- conditions

-- no sum passes this
abbrev pub most_run : ℕ
most_run = 1000000000000

-- the tables of a profile are of blocks of this code, and count few steps
pub record CountsCode (c : Code) (g : Graph) (q : Profile) : Type 0 where
  pub graph : IsSomeGraph g
  pub ascending : IsStrictlyIncreasing (starts_of c)
  pub filled : (b : ℕ) → b < length c.blocks.items → 0 < length (body_at c.blocks.items b).units
  pub arrivals : length q.arrivals.items ≡ length c.blocks.items
  pub block : q.last.0 < length c.blocks.items
  pub begun : 0 < arrivals_in q q.last.0
  pub some : 0 < q.last.1
  pub units : q.last.1 ≤ length (body_at c.blocks.items q.last.0).units
  pub ordered : AllPairs (λ d e. precedes d e ≡ true) q.edges.items
  pub within : All (λ e. (e.from < length c.blocks.items) × (e.to < length c.blocks.items)) q.edges.items
  pub small : (copied : Bool) (b : ℕ) → b < length c.blocks.items → block_words c g q copied b ≤ most_run
  pub few_come : (b : ℕ) → b < length c.blocks.items → coming q.edges.items b ≤ most_run
  pub enough : (b : ℕ) → b < length c.blocks.items →
      arrivals_in q b ≤ coming q.edges.items b + (if start_at c b == c.entry then 1 else 0)
  pub home : (range : BlockRange) → home_words c g q range ≤ most_run
  pub copies : (range : BlockRange) → copy_words_run c g q range ≤ most_run
  pub arrived : (range : BlockRange) → sum_in range (arrivals_in q) (length c.blocks.items) ≤ most_run
  pub stays : (range : BlockRange) →
      stayed c q range ≤ sum_in range (arrivals_in q) (length c.blocks.items) + pending_inside c q range
  pub few_pending : (range : BlockRange) → sum_in range (pending c q) (length c.blocks.items) ≤ most_run

-- blocks may be copied together: each leads to blocks alone
abbrev pub LeadsToBlocks : Code → End → Type 0
LeadsToBlocks c end = All (λ a. has (starts_of c) a ≡ true) (successors end)

pub record MayCount (c : Code) (range : BlockRange) : Type 0 where
  pub is_range : IsRange c range
  pub leads : (b : ℕ) → holds_block b range ≡ true → LeadsToBlocks c (body_at c.blocks.items b).end

-- a unit leads to a block
abbrev pub HasTarget : Code → UnitKind → Type 0
HasTarget c (Branch kind rs1 rs2 target) = has (starts_of c) target ≡ true
HasTarget c (Jump target) = has (starts_of c) target ≡ true
HasTarget c other = Prim.Unit {0}

-- ---- results

pub record AreListedCounts (c : Code) (g : Graph) (q : Profile) (counts : BlockCounts) : Type 0 where
  pub home : counts.home.items ≡ values (block_words c g q false) (length c.blocks.items)
  pub copied : counts.copied.items ≡ values (block_words c g q true) (length c.blocks.items)
  pub pending : counts.pending.items ≡ values (pending c q) (length c.blocks.items)
  pub edges : counts.edges.items ≡ values (edges_before q.edges.items) (suc (length c.blocks.items))

pub record AreBlockCounts (c : Code) (g : Graph) (q : Profile) (counts : BlockCounts) : Type 0 where
  pub listed : AreListedCounts c g q counts
  pub stretches : AreStretches c g q (length c.blocks.items / 16) counts.stretches.items

pub record IsPieceCount (c : Code) (g : Graph) (q : Profile) (range : BlockRange) (counts : PieceCounts) : Type 0 where
  pub home : counts.home ≡ home_words c g q range
  pub copied : counts.copied ≡ copy_words_run c g q range
  pub came : counts.came ≡ came_in c q range
  pub small_home : counts.home ≤ most_run
  pub small_copied : counts.copied ≤ most_run
  pub small_came : counts.came ≤ 2 * most_run

-- ---- steps

-- `more` was added at place `k`
pub record Raises (old new : List ℕ) (k more : ℕ) : Type 0 where
  pub size : length new ≡ length old
  pub each : (b : ℕ) → b < length old → slice_index_or new b 0 ≡ slice_index_or old b 0 + (if k == b then more else 0)

-- the edges to each block, of the first `n` edges
pub record AreComing (edges : List Edge) (blocks n : ℕ) (counts : List ℕ) : Type 0 where
  pub size : length counts ≡ blocks
  pub each : (b : ℕ) → b < blocks → slice_index_or counts b 0 ≡ sum_below (λ j. count_to b (edge_in edges j)) n

-- what the blocks of a range before block `n` ran
pub record AreSums (c : Code) (g : Graph) (q : Profile) (range : BlockRange) (n : ℕ) (sums : PieceSums) : Type 0 where
  pub home : sums.home ≡ sum_in range (block_words c g q false) n
  pub copied : sums.copied ≡ sum_in range (copied_words_of c g q range) n
  pub arrived : sums.arrived ≡ sum_in range (arrivals_in q) n
  pub stayed : sums.stayed ≡ sum_in range (stays_of c q range) n
  pub pending : sums.pending ≡ sum_in range (pending c q) n

-- where the edges from block `a` begin, and those from the next
pub record AreEdgeStarts (edges : List Edge) (a : ℕ) (starts : List ℕ) : Type 0 where
  pub inside : a + 1 < length starts
  pub from : slice_index_or starts a 0 ≡ edges_before edges a
  pub to : slice_index_or starts (a + 1) 0 ≡ edges_before edges (a + 1)

-- what the tables tell of block `b`
pub record AreListed (q : Profile) (counts : BlockCounts) (b : ℕ) (sums : PieceSums) : Type 0 where
  pub home : sums.home ≡ slice_index_or counts.home.items b 0
  pub copied : sums.copied ≡ slice_index_or counts.copied.items b 0
  pub arrived : sums.arrived ≡ arrivals_in q b
  pub stayed : sums.stayed ≡ 0
  pub pending : sums.pending ≡ slice_index_or counts.pending.items b 0

-- what block `b` of a range ran
pub record AreTerms (c : Code) (g : Graph) (q : Profile) (range : BlockRange) (b : ℕ) (sums : PieceSums) : Type 0 where
  pub home : sums.home ≡ block_words c g q false b
  pub copied : sums.copied ≡ copied_words_of c g q range b
  pub arrived : sums.arrived ≡ arrivals_in q b
  pub stayed : sums.stayed ≡ stays_of c q range b
  pub pending : sums.pending ≡ pending c q b

pub record AreAdded (old more new : PieceSums) : Type 0 where
  pub home : new.home ≡ old.home + more.home
  pub copied : new.copied ≡ old.copied + more.copied
  pub arrived : new.arrived ≡ old.arrived + more.arrived
  pub stayed : new.stayed ≡ old.stayed + more.stayed
  pub pending : new.pending ≡ old.pending + more.pending

-- no sum passes the most that a run counts
pub record AreFew (sums : PieceSums) : Type 0 where
  pub home : sums.home ≤ most_run
  pub copied : sums.copied ≤ most_run
  pub arrived : sums.arrived ≤ most_run
  pub stayed : sums.stayed ≤ 2 * most_run
  pub pending : sums.pending ≤ most_run
