-- The graph along which liveness spreads, against the flow of control: node `b` is the beginning of block `b`, and
-- behind the blocks one more node stands for every jump to an address in a register.
use Rattle.std.specs.Prelude.{◌≡◌, ◌⊎◌, ◌↔◌, ℕ, ◌<◌, ◌+◌, true, List, [], length, slice_index_or}
use Rattle.reach_graph.specs.Reaching.{HasMark, word_at, edges_of, edge_at, AreInside}
use Rattle.reach_graph.specs.declared.edges.Edge.{Edge}
use Rattle.code_blocks.specs.Edges.{is_indirect_end}
use Rattle.code_blocks.specs.Numbers.{start_at, end_at}
use Rattle.code_blocks.specs.declared.parts.Code.{Code}
use Rattle.code_blocks.specs.Leads.{IsBlockOf, LeadsOn, units_at}
use Rattle.dataflow.specs.Summaries.{UsedFirst, PassesOver}

-- ---- edges

-- an edge of a row lets mark `x` pass to node `t`
pub record LetsIn (row : List Edge) (t x : ℕ) : Type 0 where
  pub i : ℕ
  pub below : i < length row
  pub leads : (edge_at row i).to ≡ t
  pub passes : HasMark (edge_at row i).mask x

-- an edge from node `f` does
abbrev pub Lets : List (List Edge) → ℕ → ℕ → ℕ → Type 0
Lets rows f t x = LetsIn (edges_of rows f) t x

-- `new` lets pass what `old` does and what a set has, for registers
pub record Adds (S : ℕ → ℕ → ℕ → Type 0) (old new : List (List Edge)) : Type 0 where
  pub size : length new ≡ length old
  pub edges : (f t x : ℕ) → x < 32 → Lets new f t x ↔ (Lets old f t x ⊎ S f t x)
  pub inside : AreInside old (length old) → AreInside new (length new)

abbrev pub OneEdge : ℕ → ℕ → ℕ → ℕ → ℕ → ℕ → Type 0
OneEdge from to mask f t x = (f ≡ from) × (t ≡ to) × HasMark mask x

-- from the first `count` nodes of a list to one node
pub record ListEdges (nodes : List ℕ) (count to mask f t x : ℕ) : Type 0 where
  pub i : ℕ
  pub below : i < count
  pub from : slice_index_or nodes i 0 ≡ f
  pub to_it : t ≡ to
  pub lets : HasMark mask x

-- to block `b` from those to which direct edges lead from it
pub record DirectEdges (c : Code) (b mask f t x : ℕ) : Type 0 where
  pub edge : LeadsOn c b f
  pub to : t ≡ b
  pub lets : HasMark mask x

-- to block `b` from the node `hub` of the indirect jumps, where it ends in one
pub record HubEdges (c : Code) (hub b mask f t x : ℕ) : Type 0 where
  pub ends : is_indirect_end (end_at c b) ≡ true
  pub from : f ≡ hub
  pub to : t ≡ b
  pub lets : HasMark mask x

abbrev pub MaskEdges : Code → ℕ → ℕ → ℕ → ℕ → ℕ → ℕ → Type 0
MaskEdges c hub b mask f t x = DirectEdges c b mask f t x ⊎ HubEdges c hub b mask f t x

-- the block to which a node leads back: over a block all registers that it doesn't define
abbrev pub LeadsBack : Code → ℕ → ℕ → ℕ → Type 0
LeadsBack c hub b f = LeadsOn c b f ⊎ ((is_indirect_end (end_at c b) ≡ true) × (f ≡ hub))

-- to the first `count` blocks, the registers that pass over them
pub record BlockEdges (c : Code) (hub count f t x : ℕ) : Type 0 where
  pub below : t < count
  pub edge : LeadsBack c hub t f
  pub over : PassesOver (units_at c t) x

-- from the blocks at the first `count` indirect leaders to the hub, all registers
pub record ArrivalEdges (c : Code) (hub count f t x : ℕ) : Type 0 where
  pub i : ℕ
  pub below : i < count
  pub is_block : IsBlockOf c f
  pub starts : slice_index_or c.indirect.items i 0 ≡ start_at c f
  pub to : t ≡ hub

-- to the first `count` blocks, all registers
pub record BackEdges (c : Code) (hub count f t x : ℕ) : Type 0 where
  pub below : t < count
  pub edge : LeadsBack c hub t f

-- ---- the whole

-- all edges against the flow of control, along which all registers pass
pub record AreBackEdges (c : Code) (hub : ℕ) (rows : List (List Edge)) : Type 0 where
  pub size : length rows ≡ hub + 1
  pub edges : (f t x : ℕ) → x < 32 → Lets rows f t x ↔ (BackEdges c hub hub f t x ⊎ ArrivalEdges c hub (length c.indirect.items) f t x)
  pub inside : AreInside rows (length rows)

-- the edges of a program
pub record AreEdges (c : Code) (hub : ℕ) (rows : List (List Edge)) : Type 0 where
  pub edges : (f t x : ℕ) → x < 32 → Lets rows f t x ↔ (BlockEdges c hub hub f t x ⊎ ArrivalEdges c hub (length c.indirect.items) f t x)
  pub inside : AreInside rows (length rows)

-- the marks of the first `count` blocks: what they use before they define it
abbrev pub AreMarks : Code → ℕ → List ℕ → Type 0
AreMarks c count words =
    (b x : ℕ) → x < 32 → HasMark (word_at words b) x ↔ ((b < count) × UsedFirst (units_at c b) (length (units_at c b)) x)

-- no node has an edge
abbrev pub HasNone : List (List Edge) → Type 0
HasNone rows = (f : ℕ) → edges_of rows f ≡ []
