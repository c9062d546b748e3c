-- Sixteen blocks that follow one another, counted together for the pieces that no edge from them leaves.
use Rattle.std.specs.Prelude.{◌≡◌, ℕ, ◌+◌, ◌*◌, ◌%◌, ◌<◌, ◌≤◌, ◌==◌, Bool, true, false, ◌||◌, List, length, slice_index_or, if◌then◌else◌}
use Rattle.list_checks.specs.Sorted.{sum_below}
use Rattle.object_graph.specs.declared.parts.Graph.{Graph}
use Rattle.code_blocks.specs.Numbers.{start_at}
use Rattle.code_blocks.specs.declared.parts.Code.{Code}
use Rattle.code_blocks.specs.declared.ends.End.{End}
use Rattle.code_blocks.specs.declared.ends.End.TheVariants.{Fall, Branch, Jump}
use Rattle.profile_runner.specs.declared.counts.Edge.{Edge}
use Rattle.profile_runner.specs.declared.counts.Profile.{Profile}
use Rattle.block_splitter.specs.declared.block_range.BlockRange.{BlockRange}
use Rattle.block_splitter.specs.Forms.{body_at}
use Rattle.energy_model.specs.declared.block_counts.PieceSums.{PieceSums}
use Rattle.energy_model.specs.declared.block_counts.Reach.{Reach}
use Rattle.energy_model.specs.declared.block_counts.Stretch.{Stretch}
use Rattle.energy_model.specs.Energy.{may_stay}
use Rattle.energy_model.specs.Copied.{arrivals_in, block_words, edge_in, leaving, sum_in, copied_words_of, stays_of, pending}

-- each edge counts, whereto it leads
abbrev pub always : ℕ → ℕ
always b = 1

-- how often control went on from block `b`, where it may stay in a copy
abbrev pub goes_on : Code → Profile → ℕ → ℕ
goes_on c q b = if may_stay (body_at c.blocks.items b).end then leaving q.edges.items b always else 0

-- control goes from a block that ends so to an address as that end says, if it may stay in a copy
abbrev pub leads_to : End → ℕ → Bool
leads_to (Fall behind) next = next == behind
leads_to (Branch target behind) next = (next == target) || (next == behind)
leads_to (Jump target) next = next == target
leads_to other next = true

-- ---- where edges lead

-- an edge that may stay in a copy leads to a block of these
pub record LeadsWithin (c : Code) (reach : Reach) (e : Edge) : Type 0 where
  pub plain : reach.plain ≡ true → leads_to (body_at c.blocks.items e.from).end (start_at c e.to) ≡ true
  pub first_to : reach.first ≤ e.to
  pub last_to : e.to ≤ reach.last

abbrev pub IsReached : Code → Reach → Edge → Type 0
IsReached c reach e = may_stay (body_at c.blocks.items e.from).end ≡ true → LeadsWithin c reach e

-- the edges before edge `n` that are from block `b` or one behind it
abbrev pub AreReached : Code → List Edge → ℕ → ℕ → Reach → Type 0
AreReached c edges b n reach = (j : ℕ) → j < n → b ≤ (edge_in edges j).from → IsReached c reach (edge_in edges j)

-- those from the blocks from `b` to the one before `n`
abbrev pub IsReach : Code → List Edge → ℕ → ℕ → Reach → Type 0
IsReach c edges b n reach =
    (j : ℕ) → j < length edges → b ≤ (edge_in edges j).from → (edge_in edges j).from < n → IsReached c reach (edge_in edges j)

-- one edge more
pub record ReachGrows (c : Code) (e : Edge) (old new : Reach) : Type 0 where
  pub here : IsReached c new e
  pub plain : new.plain ≡ true → old.plain ≡ true
  pub first_less : new.first ≤ old.first
  pub last_more : old.last ≤ new.last

-- ---- what blocks ran

-- block `b`, where no edge from it leaves its piece
pub record AreWholeTerms (c : Code) (g : Graph) (q : Profile) (b : ℕ) (sums : PieceSums) : Type 0 where
  pub home : sums.home ≡ block_words c g q false b
  pub copied : sums.copied ≡ block_words c g q true b
  pub arrived : sums.arrived ≡ arrivals_in q b
  pub stayed : sums.stayed ≡ goes_on c q b
  pub pending : sums.pending ≡ pending c q b

-- the values of the blocks from `b` to the one before `n`
abbrev pub AddsUp : (ℕ → ℕ) → ℕ → ℕ → ℕ → Type 0
AddsUp f b n sum = sum_below f b + sum ≡ sum_below f n

pub record AreWholeSums (c : Code) (g : Graph) (q : Profile) (b n : ℕ) (sums : PieceSums) : Type 0 where
  pub home : AddsUp (block_words c g q false) b n sums.home
  pub copied : AddsUp (block_words c g q true) b n sums.copied
  pub arrived : AddsUp (arrivals_in q) b n sums.arrived
  pub stayed : AddsUp (goes_on c q) b n sums.stayed
  pub pending : AddsUp (pending c q) b n sums.pending

pub record IsStretch (c : Code) (g : Graph) (q : Profile) (b : ℕ) (stretch : Stretch) : Type 0 where
  pub sums : AreWholeSums c g q b (b + 16) stretch.sums
  pub reach : IsReach c q.edges.items b (b + 16) stretch.reach

abbrev pub no_stretch : Stretch
no_stretch =
    record {
      sums = record { home = 0; copied = 0; arrived = 0; stayed = 0; pending = 0 };
      reach = record { first = 0; last = 0; plain = false };
    }

-- the first `n` stretches
pub record AreStretches (c : Code) (g : Graph) (q : Profile) (n : ℕ) (stretches : List Stretch) : Type 0 where
  pub size : length stretches ≡ n
  pub each : (k : ℕ) (d : Stretch) → k < n → IsStretch c g q (k * 16) (slice_index_or stretches k d)

-- ---- parts of a piece

-- the blocks of a range from `b` to the one before `part.end`
pub record ArePartSums (c : Code) (g : Graph) (q : Profile) (range : BlockRange) (b n : ℕ) (sums : PieceSums) : Type 0 where
  pub home : sum_in range (block_words c g q false) b + sums.home ≡ sum_in range (block_words c g q false) n
  pub copied : sum_in range (copied_words_of c g q range) b + sums.copied ≡ sum_in range (copied_words_of c g q range) n
  pub arrived : sum_in range (arrivals_in q) b + sums.arrived ≡ sum_in range (arrivals_in q) n
  pub stayed : sum_in range (stays_of c q range) b + sums.stayed ≡ sum_in range (stays_of c q range) n
  pub pending : sum_in range (pending c q) b + sums.pending ≡ sum_in range (pending c q) n

-- no edge from the sixteen blocks from `b` leaves the range
pub record StaysIn (range : BlockRange) (b : ℕ) (reach : Reach) : Type 0 where
  pub even : b % 16 ≡ 0
  pub size : b + 16 ≤ range.last + 1
  pub plain : reach.plain ≡ true
  pub first_in : range.first ≤ reach.first
  pub last_in : reach.last ≤ range.last
