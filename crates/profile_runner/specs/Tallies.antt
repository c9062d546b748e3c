-- How counters grow: by the places that pass a test, and by one edge.
use Rattle.std.specs.Prelude.{◌≡◌, ℕ, zero, suc, ◌+◌, ◌<◌, ◌≤◌, ◌==◌, nat_lt, Bool, true, false, not, ◌&&◌, if◌then◌else◌, List, [], ◌∷◌, ◌++◌, length, map, slice_index_or, slice_set, Option, Some, None}
use Rattle.std.specs.Option.{unwrap_or}
use Rattle.std.specs.Map.{lookup}
use Rattle.std.specs.BTreeMap.{is_at}
use Rattle.std.specs.Ordering.{nat_cmp}
use Rattle.object_machine.specs.declared.events.Access.{Access}
use Rattle.profile_runner.specs.Counts.{row_of, entry, is_access_to, count_in}
use Rattle.code_blocks.specs.Early.{has}
use Rattle.profile_runner.specs.Standing.{number_of, region_of, entered}
use Rattle.profile_runner.specs.declared.counts.Edge.{Edge}
use Rattle.profile_runner.specs.declared.edge_row.EdgeRow.{EdgeRow}
use Rattle.profile_runner.specs.declared.edge_row.EdgeRow.TheVariants.{Few, Many}

-- ---- counts

-- the counts at the places that pass grew by one
pub record Adds (old new : List ℕ) (test : ℕ → Bool) : Type 0 where
  pub same_length : length new ≡ length old
  pub each : (k : ℕ) → k < length old → slice_index_or new k 0 ≡ slice_index_or old k 0 + (if test k then 1 else 0)

-- the same of a table
pub record AddsIn (old new : List (List ℕ)) (test : ℕ → ℕ → Bool) : Type 0 where
  pub same_height : length new ≡ length old
  pub same_widths : (j : ℕ) → length (row_of new j) ≡ length (row_of old j)
  pub each : (j k : ℕ) → j < length old → k < length (row_of old j) → entry new j k ≡ entry old j k + (if test j k then 1 else 0)

-- a place of a table is row `j`, column `k`
abbrev pub is_entry : ℕ → ℕ → ℕ → ℕ → Bool
is_entry j k a b = (j == a) && (k == b)

-- ---- what counts when a block begins, or none does

-- the number of the block that begins at an address: none does, or that one
abbrev pub IsBlockAt : List ℕ → ℕ → Option ℕ → Type 0
IsBlockAt starts a None = has starts a ≡ false
IsBlockAt starts a (Some k) = (has starts a ≡ true) × (number_of starts a ≡ k) × (k < length starts)

-- the same of the address to which a step led, if the machine goes on
abbrev pub IsNext : List ℕ → Bool → ℕ → Option ℕ → Type 0
IsNext starts true a next = IsBlockAt starts a next
IsNext starts false a next = next ≡ None

abbrev pub is_coming : Option ℕ → ℕ → Bool
is_coming None b = false
is_coming (Some k) b = k == b

abbrev pub block_now : Option ℕ → ℕ → ℕ
block_now None block = block
block_now (Some k) block = k

abbrev pub units_now : Option ℕ → ℕ → ℕ
units_now None units = suc units
units_now (Some k) units = 1

abbrev pub region_now : List ℕ → Option ℕ → ℕ → ℕ
region_now regions None region = region
region_now regions (Some k) region = entered region (region_of regions k)

-- the current region changes from one to another, and leaves or enters one
abbrev pub is_switch : ℕ → ℕ → ℕ → ℕ → Bool
is_switch before after s r = not (s == r) && ((before == s) && (after == r))

abbrev pub is_leave : ℕ → ℕ → ℕ → Bool
is_leave before after s = (before == s) && not (before == after)

abbrev pub is_enter : ℕ → ℕ → ℕ → Bool
is_enter before after r = (after == r) && not (before == after)

-- an object is accessed while a region is current
abbrev pub is_access_in : Bool → Option Access → ℕ → ℕ → ℕ → Bool
is_access_in write access region o r = is_access_to write o access && (region == r)

-- ---- edges of one block, by where they lead

abbrev pub one_edge : ℕ → ℕ → Edge
one_edge a b = record { from = a; to = b; count = 1 }

-- one more edge from `a` to `b`
abbrev pub with_edge : List Edge → ℕ → ℕ → List Edge
with_edge [] a b = one_edge a b ∷ []
with_edge (e ∷ edges) a b =
    if nat_lt e.to b then e ∷ with_edge edges a b
    else (if e.to == b then record e { count = e.count + 1 } ∷ edges else one_edge a b ∷ e ∷ edges)

-- an edge of block `a`, one of `size`, that was taken at most so often
pub record IsEdgeOf (a size most : ℕ) (e : Edge) : Type 0 where
  pub begins_there : e.from ≡ a
  pub leads_within : e.to < size
  pub was_taken : 0 < e.count
  pub few : e.count ≤ most

-- edges of that block that lead to ascending blocks from `low` on
abbrev pub AreFrom : ℕ → ℕ → ℕ → ℕ → List Edge → Type 0
AreFrom low a size most [] = Unit {0}
AreFrom low a size most (e ∷ edges) = IsEdgeOf a size most e × ((low ≤ e.to) × AreFrom (suc e.to) a size most edges)

-- where edges ascend
abbrev pub Ascend : ℕ → List Edge → Type 0
Ascend low [] = Unit {0}
Ascend low (e ∷ edges) = (low ≤ e.to) × Ascend (suc e.to) edges

-- those before a place lead to lower blocks than `b`
abbrev pub LieBelow : List Edge → ℕ → ℕ → Type 0
LieBelow row b k = (j : ℕ) (d : Edge) → j < k → (slice_index_or row j d).to < b

-- the edge to `b` is at place `k`; or none is there, and one would belong to place `k`
pub record IsFoundAt (row : List Edge) (b k : ℕ) : Type 0 where
  pub inside : k < length row
  pub lower : LieBelow row b k
  pub here : (d : Edge) → (slice_index_or row k d).to ≡ b

pub record IsGapAt (row : List Edge) (b k : ℕ) : Type 0 where
  pub inside : k ≤ length row
  pub lower : LieBelow row b k
  pub higher : (d : Edge) → k < length row → b < (slice_index_or row k d).to

-- ---- a row of edges for each block

-- the count of a block among many, by its number, is that of an edge from block `a`
abbrev pub counted_from : ℕ → ℕ × ℕ → Edge
counted_from a c = record { from = a; to = c.0; count = c.1 }

abbrev pub plain_count : Edge → ℕ × ℕ
plain_count e = (e.to, e.count)

abbrev pub count_to : List (ℕ × ℕ) → ℕ → ℕ
count_to counts b = unwrap_or (lookup (is_at (nat_cmp b)) counts) 0

abbrev pub edges_of : EdgeRow → List Edge
edges_of (Few row) = row.items
edges_of (Many a counts) = map (counted_from a) counts.entries

abbrev pub plain_edges : List EdgeRow → List (List Edge)
plain_edges rows = map edges_of rows

abbrev pub edge_row : List (List Edge) → ℕ → List Edge
edge_row rows a = slice_index_or rows a []

pub record AreRows (rows : List (List Edge)) (size most : ℕ) (count : ℕ → ℕ → ℕ) : Type 0 where
  pub height_is : length rows ≡ size
  pub from : (a : ℕ) → a < size → AreFrom 0 a size most (edge_row rows a)
  pub counts : (a b : ℕ) → a < size → b < size → count_in (edge_row rows a) a b ≡ count a b

-- the first `n` rows, one behind the other
abbrev pub joined_below : List (List Edge) → ℕ → List Edge
joined_below rows zero = []
joined_below rows (suc n) = joined_below rows n ++ edge_row rows n

-- the edge from `block` to the next one is from `a` to `b`
abbrev pub is_led : ℕ → Option ℕ → ℕ → ℕ → Bool
is_led block None a b = false
is_led block (Some k) a b = (block == a) && (k == b)

-- an edge to a block was taken from block `a`, or none was
abbrev pub LedTo : Option ℕ → ℕ → List (List Edge) → List (List Edge) → Type 0
LedTo None a old new = new ≡ old
LedTo (Some b) a old new = new ≡ slice_set old a (with_edge (edge_row old a) a b)
