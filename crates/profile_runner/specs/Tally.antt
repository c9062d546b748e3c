-- What the counters of a run hold, and how one step changes them.
use Rattle.std.specs.Prelude.{◌≡◌, ℕ, suc, ◌<◌, ◌≤◌, true, false, List, [], length, replicate, slice_index, Option, Some, None}
use Rattle.std.specs.List.{All}
use Rattle.object_machine.specs.declared.events.Access.{Access}
use Rattle.profile_runner.specs.Transition.{Transition}
use Rattle.profile_runner.specs.Standing.{region_of, entered, block_of, units_run, current}
use Rattle.profile_runner.specs.Counts.{plain_rows, row_of, entry, arrivals_of, edges_of, accesses_of, switches_of, IsList, IsTable}
use Rattle.list_checks.specs.Sorted.{sum_below}
use Rattle.profile_runner.specs.Tallies.{Adds, AddsIn, is_coming, block_now, units_now, region_now, is_switch, is_leave, is_enter, is_access_in, Ascend, plain_edges, edge_row, AreRows, LedTo}
use Rattle.profile_runner.specs.declared.counts.Edge.{Edge}
use Rattle.profile_runner.specs.declared.changes.Changes.{Changes}
use Rattle.profile_runner.specs.declared.tally.Tally.{Tally}

-- ---- room for one more

pub record HasRoomToChange (c : Changes) (before after : ℕ) : Type 0 where
  pub row : before < length c.switches.items
  pub column : after < length (row_of (plain_rows c.switches.items) before)
  pub switch : entry (plain_rows c.switches.items) before after < 18446744073709551615
  pub leave_row : before < length c.leaves.items
  pub leave : slice_index c.leaves.items before < 18446744073709551615
  pub enter_row : after < length c.enters.items
  pub enter : slice_index c.enters.items after < 18446744073709551615

pub record HasRoomForBlock (regions : List ℕ) (k : ℕ) (t : Tally) : Type 0 where
  pub number : k < length regions
  pub row : k < length t.arrivals.items
  pub arrival : slice_index t.arrivals.items k < 18446744073709551615
  pub change : HasRoomToChange t.changes t.region (entered t.region (region_of regions k))

abbrev pub HasRoomToBegin : List ℕ → Option ℕ → Tally → Type 0
HasRoomToBegin regions None t = Unit {0}
HasRoomToBegin regions (Some k) t = HasRoomForBlock regions k t

pub record HasRoomToAccess (region : ℕ) (reads writes : List (List ℕ)) : Type 0 where
  pub read_columns : (j : ℕ) → j < length reads → region < length (row_of reads j)
  pub read : (j : ℕ) → j < length reads → entry reads j region < 18446744073709551615
  pub write_columns : (j : ℕ) → j < length writes → region < length (row_of writes j)
  pub write : (j : ℕ) → j < length writes → entry writes j region < 18446744073709551615

pub record HasRoomForEdge (block : ℕ) (rows : List (List Edge)) : Type 0 where
  pub row : block < length rows
  pub begun : All (λ e. e.from ≡ block) (edge_row rows block)
  pub ascending : Ascend 0 (edge_row rows block)
  pub edge : All (λ e. e.count < 18446744073709551615) (edge_row rows block)

abbrev pub HasRoomToLead : Option ℕ → ℕ → List (List Edge) → Type 0
HasRoomToLead None block rows = Unit {0}
HasRoomToLead (Some b) block rows = HasRoomForEdge block rows

pub record HasRoom (regions : List ℕ) (coming next : Option ℕ) (t : Tally) : Type 0 where
  pub begin : HasRoomToBegin regions coming t
  pub accesses : HasRoomToAccess (region_now regions coming t.region) (plain_rows t.reads.items) (plain_rows t.writes.items)
  pub lead : HasRoomToLead next (block_now coming t.block) (plain_edges t.edges.items)

-- ---- what a step changes

pub record HasChanged (old new : Changes) (before after : ℕ) : Type 0 where
  pub switches_add : AddsIn (plain_rows old.switches.items) (plain_rows new.switches.items) (is_switch before after)
  pub leaves_add : Adds old.leaves.items new.leaves.items (is_leave before after)
  pub enters_add : Adds old.enters.items new.enters.items (is_enter before after)

pub record HasBegun (regions : List ℕ) (coming : Option ℕ) (old new : Tally) : Type 0 where
  pub block_is : new.block ≡ block_now coming old.block
  pub units_are : new.units ≡ units_now coming old.units
  pub region_is : new.region ≡ region_now regions coming old.region
  pub arrivals_add : Adds old.arrivals.items new.arrivals.items (is_coming coming)
  pub changes_add : HasChanged old.changes new.changes old.region new.region
  pub rest : new ≡ record old { arrivals = new.arrivals; changes = new.changes; block = new.block; units = new.units; region = new.region }

-- a region becomes current, if it isn't
pub record HasMoved (region : ℕ) (old new : Tally) : Type 0 where
  pub region_is : new.region ≡ region
  pub changes_add : HasChanged old.changes new.changes old.region region
  pub rest : new ≡ record old { changes = new.changes; region = new.region }

-- a block begins, of which no unit ran
pub record HasEntered (regions : List ℕ) (k : ℕ) (old new : Tally) : Type 0 where
  pub block_is : new.block ≡ k
  pub region_is : new.region ≡ entered old.region (region_of regions k)
  pub arrivals_add : Adds old.arrivals.items new.arrivals.items (is_coming (Some k))
  pub changes_add : HasChanged old.changes new.changes old.region new.region
  pub rest : new ≡ record old { arrivals = new.arrivals; changes = new.changes; block = new.block; region = new.region }

pub record HasAccessed (access : Option Access) (old new : Tally) : Type 0 where
  pub reads_add : AddsIn (plain_rows old.reads.items) (plain_rows new.reads.items) (is_access_in false access old.region)
  pub writes_add : AddsIn (plain_rows old.writes.items) (plain_rows new.writes.items) (is_access_in true access old.region)
  pub rest : new ≡ record old { reads = new.reads; writes = new.writes }

pub record HasLed (next : Option ℕ) (old new : Tally) : Type 0 where
  pub edges_add : LedTo next old.block (plain_edges old.edges.items) (plain_edges new.edges.items)
  pub rest : new ≡ record old { edges = new.edges }

pub record HasCounted (regions : List ℕ) (coming : Option ℕ) (access : Option Access) (next : Option ℕ) (old new : Tally) : Type 0 where
  pub steps_are : new.steps ≡ suc old.steps
  pub block_is : new.block ≡ block_now coming old.block
  pub units_are : new.units ≡ units_now coming old.units
  pub region_is : new.region ≡ region_now regions coming old.region
  pub arrivals_add : Adds old.arrivals.items new.arrivals.items (is_coming coming)
  pub edges_add : LedTo next new.block (plain_edges old.edges.items) (plain_edges new.edges.items)
  pub reads_add : AddsIn (plain_rows old.reads.items) (plain_rows new.reads.items) (is_access_in false access new.region)
  pub writes_add : AddsIn (plain_rows old.writes.items) (plain_rows new.writes.items) (is_access_in true access new.region)
  pub changes_add : HasChanged old.changes new.changes old.region new.region

-- ---- what was counted of the transitions so far

-- how often a region was left, and entered
abbrev pub leaves_of : List ℕ → List ℕ → ℕ → List Transition → ℕ → ℕ
leaves_of starts regions last transitions s = sum_below (switches_of starts regions transitions s) (suc last)

abbrev pub enters_of : List ℕ → List ℕ → ℕ → List Transition → ℕ → ℕ
enters_of starts regions last transitions r = sum_below (λ s. switches_of starts regions transitions s r) (suc last)

pub record IsTally (starts regions : List ℕ) (last size : ℕ) (transitions : List Transition) (t : Tally) : Type 0 where
  pub steps_are : t.steps ≡ length transitions
  pub arrivals_are : IsList t.arrivals.items (length starts) (arrivals_of starts transitions)
  pub edges_are : AreRows (plain_edges t.edges.items) (length starts) (length transitions) (edges_of starts transitions)
  pub reads_are : IsTable (plain_rows t.reads.items) size (suc last) (accesses_of starts regions transitions false)
  pub writes_are : IsTable (plain_rows t.writes.items) size (suc last) (accesses_of starts regions transitions true)
  pub switches_are : IsTable (plain_rows t.changes.switches.items) (suc last) (suc last) (switches_of starts regions transitions)
  pub leaves_are : IsList t.changes.leaves.items (suc last) (leaves_of starts regions last transitions)
  pub enters_are : IsList t.changes.enters.items (suc last) (enters_of starts regions last transitions)
  -- each region was left and entered at most once a transition
  pub few_leaves : (s : ℕ) → s < suc last → leaves_of starts regions last transitions s ≤ length transitions
  pub few_enters : (r : ℕ) → r < suc last → enters_of starts regions last transitions r ≤ length transitions
  pub region_is : t.region ≡ current starts regions transitions (length transitions)
  pub region_fits : t.region ≤ last
  pub block_fits : t.block < length starts
  pub block_is : (i : ℕ) → length transitions ≡ suc i → t.block ≡ block_of starts transitions i
  pub units_are : (i : ℕ) → length transitions ≡ suc i → t.units ≡ units_run starts transitions i

-- nothing was counted yet, and the run begins in block `first`
pub record IsNew (blocks size last first : ℕ) (t : Tally) : Type 0 where
  pub no_steps : t.steps ≡ 0
  pub no_arrivals : t.arrivals.items ≡ replicate blocks 0
  pub no_edges : plain_edges t.edges.items ≡ replicate blocks []
  pub no_reads : plain_rows t.reads.items ≡ replicate size (replicate (suc last) 0)
  pub no_writes : plain_rows t.writes.items ≡ replicate size (replicate (suc last) 0)
  pub no_switches : plain_rows t.changes.switches.items ≡ replicate (suc last) (replicate (suc last) 0)
  pub no_leaves : t.changes.leaves.items ≡ replicate (suc last) 0
  pub no_enters : t.changes.enters.items ≡ replicate (suc last) 0
  pub first_block : t.block ≡ first
  pub no_region : t.region ≡ 0
