-- What is known while registers spread against the flow of control: from the beginning of a block to the places at the ends
-- of those that lead there, and from there to the registers at their beginning. Behind the `n` blocks node `n` stands for
-- every jump to an address in a register; it has no units.
use Rattle.std.specs.Prelude.{◌≡◌, ◌≢◌, ◌⊎◌, ◌↔◌, ℕ, ◌+◌, ◌<◌, Bool, true, false, List, length}
use Rattle.rv32im.specs.declared.instructions.RegSet.{RegSet}
use Rattle.object_graph.specs.declared.parts.Site.{Site}
use Rattle.object_graph.specs.declared.parts.Graph.{Graph}
use Rattle.code_blocks.specs.Edges.{is_indirect_end}
use Rattle.code_blocks.specs.Numbers.{end_at}
use Rattle.code_blocks.specs.Leads.{IsBlockOf, units_at}
use Rattle.code_blocks.specs.declared.parts.Code.{Code}
use Rattle.reach_graph.specs.Reaching.{HasMark, word_at, edges_of, edge_at}
use Rattle.reach_graph.specs.declared.edges.Edge.{Edge}
use Rattle.reach_graph.specs.Queues.{waits_at}
use Rattle.dataflow.specs.Points.{IsHolder, Held, Derives}
use Rattle.dataflow.specs.Exposed.{IsAsked, IsExposed}
use Rattle.dataflow.specs.Transfers.{LeadsInto}

-- ---- words of the nodes: `behind` the places behind a block, `before` the registers before it

-- a word each; memory is among the places
pub record AreWords (n : ℕ) (behind before : List ℕ) : Type 0 where
  pub behind_size : length behind ≡ n + 1
  pub before_size : length before ≡ n + 1
  pub memory : (m : ℕ) → m < n + 1 → HasMark (word_at behind m) 0

-- the registers before node `m` from which a marked place is reached have marks
abbrev pub IsLed : Code → List Site → List ℕ → List ℕ → ℕ → Type 0
IsLed c sites behind before m = (x : ℕ) → IsHolder x → LeadsInto sites (units_at c m) (word_at behind m) x → HasMark (word_at before m) x

-- ---- what marks mean

-- an address of object `o` is in register `x` before node `m`: where block `m` begins, or on the way to any indirect leader
pub data HeldBefore (c : Code) (g : Graph) (o m x : ℕ) : Type 0 where
  at_block : IsBlockOf c m → Derives c g o (Held m 0 x) → HeldBefore c g o m x
  on_way : (b : ℕ) → m ≡ length c.blocks.items → IsBlockOf c b → is_indirect_end (end_at c b) ≡ true → Derives c g o (Held b (length (units_at c b)) x) → HeldBefore c g o m x

-- behind it: where block `m` ends, or again on that way
pub data HeldBehind (c : Code) (g : Graph) (o m x : ℕ) : Type 0 where
  at_end : IsBlockOf c m → Derives c g o (Held m (length (units_at c m)) x) → HeldBehind c g o m x
  on_way : (b : ℕ) → m ≡ length c.blocks.items → IsBlockOf c b → is_indirect_end (end_at c b) ≡ true → Derives c g o (Held b (length (units_at c b)) x) → HeldBehind c g o m x

-- each object of which an address is there is exposed
abbrev pub Exposes : Code → Graph → List RegSet → ℕ → ℕ → Type 0
Exposes c g asked m x = IsHolder x × ((o : ℕ) → HeldBefore c g o m x → IsExposed c g asked o)

abbrev pub ExposesBehind : Code → Graph → List RegSet → ℕ → ℕ → Type 0
ExposesBehind c g asked m x = IsHolder x × ((o : ℕ) → HeldBehind c g o m x → IsExposed c g asked o)

-- all that is asked for has marks, and what leads to marked places; and marks are only where objects are exposed
pub record AreSound (c : Code) (g : Graph) (asked : List RegSet) (behind before : List ℕ) : Type 0 where
  pub asks : (b x : ℕ) → IsBlockOf c b → IsHolder x → IsAsked asked b x → HasMark (word_at before b) x
  pub led : (m : ℕ) → m < length c.blocks.items + 1 → IsLed c g.sites.items behind before m
  pub told : (m x : ℕ) → HasMark (word_at before m) x → Exposes c g asked m x
  pub told_behind : (m x : ℕ) → HasMark (word_at behind m) x → (x ≡ 0) ⊎ ExposesBehind c g asked m x

-- ---- one step: the marks `by` pass to the places behind node `m`

pub record IsStep (c : Code) (sites : List Site) (m by : ℕ) (behind before behind' before' : List ℕ) : Type 0 where
  pub here : (k : ℕ) → HasMark (word_at behind' m) k ↔ (HasMark (word_at behind m) k ⊎ HasMark by k)
  pub others : (j : ℕ) → j ≢ m → word_at behind' j ≡ word_at behind j
  pub led : IsLed c sites behind before m → IsLed c sites behind' before' m
  pub only : (j x : ℕ) → HasMark (word_at before' j) x → HasMark (word_at before j) x ⊎ ((j ≡ m) × IsHolder x × LeadsInto sites (units_at c m) (word_at behind' m) x)

-- places stay marked
abbrev pub AreMore : List ℕ → List ℕ → Type 0
AreMore behind behind' = (m k : ℕ) → HasMark (word_at behind m) k → HasMark (word_at behind' m) k

-- ---- the edges of a node

-- the marks `by` mean behind each node to which an edge lets them pass what marks mean there
abbrev pub MeansAlong : Code → Graph → List RegSet → List Edge → ℕ → Type 0
MeansAlong c g asked row by =
    (i x : ℕ) → i < length row → HasMark by x → HasMark (edge_at row i).mask x → ExposesBehind c g asked (edge_at row i).to x

-- the marks `by` passed along the first `count` edges of a row
abbrev pub PassedUpto : List Edge → ℕ → ℕ → List ℕ → Type 0
PassedUpto row count by marks =
    (i k : ℕ) → i < count → HasMark by k → HasMark (edge_at row i).mask k → HasMark (word_at marks (edge_at row i).to) k

-- along all edges of node `m`
abbrev pub PassedOn : List (List Edge) → ℕ → List ℕ → ℕ → Type 0
PassedOn rows by marks m = PassedUpto (edges_of rows m) (length (edges_of rows m)) by marks

-- ---- all nodes

-- those of each node that doesn't wait passed along its edges
abbrev pub ArePassed : List (List Edge) → List ℕ → List ℕ → List Bool → Type 0
ArePassed rows behind before waits =
    (m : ℕ) → waits_at waits m ≡ false → PassedOn rows (word_at before m) behind m

-- none waits
pub record AreSpread (c : Code) (g : Graph) (asked : List RegSet) (rows : List (List Edge)) (behind before : List ℕ) : Type 0 where
  pub words : AreWords (length c.blocks.items) behind before
  pub sound : AreSound c g asked behind before
  pub passed : (m : ℕ) → PassedOn rows (word_at before m) behind m

-- ---- the first registers: of the first `count` blocks those that are asked for, and those that it stores
abbrev pub AreFirst : Code → List Site → List RegSet → ℕ → List ℕ → Type 0
AreFirst c sites asked count before =
    (b x : ℕ) → b < count → HasMark (word_at before b) x ↔ (IsHolder x × (IsAsked asked b x ⊎ LeadsInto sites (units_at c b) 1 x))
