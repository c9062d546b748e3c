-- The graph along whose edges addresses go: its nodes are registers at the beginning and at the end of blocks,
-- registers on the way to any indirect leader, memory, what is loaded from it, and the objects.
use Rattle.std.specs.Prelude.{◌≡◌, ◌⊎◌, ◌↔◌, ℕ, ◌+◌, ◌*◌, ◌<◌, true, List, [], ◌∷◌, length, slice_index_or}
use Rattle.object_graph.specs.declared.parts.Site.{Site}
use Rattle.object_graph.specs.declared.parts.Graph.{Graph}
use Rattle.code_blocks.specs.Edges.{is_indirect_end}
use Rattle.code_blocks.specs.Numbers.{start_at, end_at}
use Rattle.code_blocks.specs.declared.parts.Unit.{Unit}
use Rattle.code_blocks.specs.declared.parts.Code.{Code}
use Rattle.code_blocks.specs.Leads.{IsBlockOf, LeadsOn, units_at}
use Rattle.dataflow.specs.Points.{IsHolder, site_at, Makes, Loads}
use Rattle.dataflow.specs.Flows.{Leads, no_word}
use Rattle.points_to.specs.Rows.{Has, row}
use Rattle.points_to.specs.declared.flows.Places.{Places}
use Rattle.reach_graph.specs.Reaching.{edges_of, edge_in}
use Rattle.reach_graph.specs.declared.edges.Edge.{Edge}

-- ---- numbers of nodes, in a program of `n` blocks: register `x` at the beginning of block `b`; place `y` at its
-- end, memory being place 0; register `y` on the way to any indirect leader; memory; what is loaded; object `o`
abbrev pub entry : ℕ → ℕ → ℕ
entry b x = 32 * b + x

abbrev pub end_of : ℕ → ℕ → ℕ → ℕ
end_of n b y = 32 * n + 32 * b + y

abbrev pub hub : ℕ → ℕ → ℕ
hub n y = 64 * n + y

abbrev pub memory : ℕ → ℕ
memory n = 64 * n + 32

abbrev pub loaded : ℕ → ℕ
loaded n = 64 * n + 33

abbrev pub object_node : ℕ → ℕ → ℕ
object_node n o = 64 * n + 34 + o

abbrev pub node_count : ℕ → ℕ → ℕ
node_count n objects = 64 * n + 34 + objects

-- ---- edges

-- all marks pass
unfoldable pub all_marks : ℕ
all_marks = 18446744073709551615

-- an edge that does
abbrev pub full_edge : ℕ → Edge
full_edge to = record { to = to; mask = all_marks }

abbrev pub HasEdge : List (List Edge) → ℕ → ℕ → Type 0
HasEdge rows f t = (i : ℕ) × (i < length (edges_of rows f)) × ((edge_in rows f i).to ≡ t)

abbrev pub AreFull : List (List Edge) → Type 0
AreFull rows = (f i : ℕ) → i < length (edges_of rows f) → (edge_in rows f i).mask ≡ all_marks

-- `new` has the edges of `old` and those of a set, and no others
pub record Adds (S : ℕ → ℕ → Type 0) (old new : List (List Edge)) : Type 0 where
  pub size : length new ≡ length old
  pub edges : (f t : ℕ) → HasEdge new f t ↔ (HasEdge old f t ⊎ S f t)
  pub full : AreFull old → AreFull new

abbrev pub OneEdge : ℕ → ℕ → ℕ → ℕ → Type 0
OneEdge from to f t = (f ≡ from) × (t ≡ to)

-- one of the first `m` sets of a sequence
pub record Upto (m : ℕ) (P : ℕ → ℕ → ℕ → Type 0) (f t : ℕ) : Type 0 where
  pub place : ℕ
  pub below : place < m
  pub edge : P place f t

-- from a node to place `y` of a set, if it has that; the nodes of places begin at `base`
abbrev pub PlaceEdge : ℕ → ℕ → Places → ℕ → ℕ → ℕ → Type 0
PlaceEdge from base places y f t = Has places y × (f ≡ from) × (t ≡ base + y)

-- from register `y` to itself, among nodes that begin at `from`, and others that begin at `to`
abbrev pub RegisterEdge : ℕ → ℕ → ℕ → ℕ → ℕ → Type 0
RegisterEdge from to y f t = (0 < y) × (f ≡ from + y) × (t ≡ to + y)

-- from register `x` at the beginning of a block by the rows of its table
abbrev pub RowEdge : ℕ → ℕ → List Places → ℕ → ℕ → ℕ → Type 0
RowEdge n b rows x f t = (0 < x) × Upto 32 (PlaceEdge (entry b x) (end_of n b 0) (row rows x)) f t

-- from the registers at the end of a block to those at the beginning of block `i` of a list
abbrev pub StepEdge : ℕ → ℕ → List ℕ → ℕ → ℕ → ℕ → Type 0
StepEdge n b numbers i f t = Upto 32 (RegisterEdge (end_of n b 0) (entry (slice_index_or numbers i 0) 0)) f t

-- ---- the edges of a block

-- from a node to place `y`, if units lead there from register `x`
abbrev pub FlowEdge : ℕ → ℕ → List Site → List Unit → ℕ → ℕ → ℕ → ℕ → ℕ → Type 0
FlowEdge n b sites us x from y f t = Leads sites us x y × (f ≡ from) × (t ≡ end_of n b 0 + y)

-- of what a unit makes or loads, by the units behind it
pub data SourceEdges (n b : ℕ) (sites : List Site) (u : Unit) (us : List Unit) (f t : ℕ) : Type 0 where
  made : (x o : ℕ) → IsHolder x → Makes (site_at sites u.at) u.instr o x → Upto 32 (FlowEdge n b sites us x (object_node n o)) f t → SourceEdges n b sites u us f t
  gained : (x : ℕ) → IsHolder x → Loads u.instr x → Upto 32 (FlowEdge n b sites us x (loaded n)) f t → SourceEdges n b sites u us f t

abbrev pub UnitEdges : ℕ → ℕ → List Site → List Unit → ℕ → ℕ → Type 0
UnitEdges n b sites [] f t = ⊥
UnitEdges n b sites (u ∷ us) f t = SourceEdges n b sites u us f t ⊎ UnitEdges n b sites us f t

-- of what register `x` holds at its beginning
abbrev pub EntryEdge : ℕ → ℕ → List Site → List Unit → ℕ → ℕ → ℕ → Type 0
EntryEdge n b sites us x f t = (0 < x) × Upto 32 (FlowEdge n b sites us x (entry b x)) f t

-- of what the registers hold at its end
abbrev pub NextEdges : Code → ℕ → ℕ → ℕ → ℕ → Type 0
NextEdges c n b f t = (d : ℕ) × LeadsOn c b d × Upto 32 (RegisterEdge (end_of n b 0) (entry d 0)) f t

abbrev pub LeaveEdges : Code → ℕ → ℕ → ℕ → ℕ → Type 0
LeaveEdges c n b f t = (is_indirect_end (end_at c b) ≡ true) × Upto 32 (RegisterEdge (end_of n b 0) (hub n 0)) f t

pub data BlockEdges (c : Code) (g : Graph) (n b f t : ℕ) : Type 0 where
  inside : UnitEdges n b g.sites.items (units_at c b) f t → BlockEdges c g n b f t
  across : Upto 32 (EntryEdge n b g.sites.items (units_at c b)) f t → BlockEdges c g n b f t
  onward : NextEdges c n b f t → BlockEdges c g n b f t
  leaving : LeaveEdges c n b f t → BlockEdges c g n b f t
  storing : OneEdge (end_of n b 0) (memory n) f t → BlockEdges c g n b f t

-- ---- the other edges

-- from the hub to the block that begins at indirect leader `i`
abbrev pub ArrivalEdge : Code → ℕ → ℕ → ℕ → ℕ → Type 0
ArrivalEdge c n i f t =
    (d : ℕ) × IsBlockOf c d × (slice_index_or c.indirect.items i 0 ≡ start_at c d) × Upto 32 (RegisterEdge (hub n 0) (entry d 0)) f t

-- from the object of word of data `i` to memory
abbrev pub WordEdge : Graph → ℕ → ℕ → ℕ → ℕ → Type 0
WordEdge g n i f t = OneEdge (object_node n (slice_index_or g.data_words.items i no_word).object) (memory n) f t

pub data AllEdges (c : Code) (g : Graph) (n f t : ℕ) : Type 0 where
  of_block : Upto (length c.blocks.items) (BlockEdges c g n) f t → AllEdges c g n f t
  arriving : Upto (length c.indirect.items) (ArrivalEdge c n) f t → AllEdges c g n f t
  of_word : Upto (length g.data_words.items) (WordEdge g n) f t → AllEdges c g n f t

-- the edges of a program: an edge each, and no others
pub record AreEdges (c : Code) (g : Graph) (n objects : ℕ) (rows : List (List Edge)) : Type 0 where
  pub size : length rows ≡ node_count n objects
  pub edges : (f t : ℕ) → HasEdge rows f t ↔ AllEdges c g n f t
  pub full : AreFull rows
