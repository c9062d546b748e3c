-- What is kept of the marks that reach the nodes of a program's graph, and what a table tells.
use Rattle.std.specs.Prelude.{◌≡◌, ◌⊎◌, ◌↔◌, ℕ, ◌+◌, ◌-◌, ◌*◌, ◌/◌, ◌%◌, ◌<◌, ◌==◌, min, List, [], ◌∷◌, map, length, slice_index_or, if◌then◌else◌}
use Rattle.std.specs.List.Sorted.{IsStrictlyIncreasing}
use Rattle.object_graph.specs.declared.parts.Graph.{Graph}
use Rattle.code_blocks.specs.Numbers.{starts_of}
use Rattle.code_blocks.specs.declared.parts.Code.{Code}
use Rattle.reach_graph.specs.Reaching.{HasMark, word_at, Reaches}
use Rattle.reach_graph.specs.declared.edges.Edge.{Edge}
use Rattle.code_blocks.specs.Leads.{IsBlockOf}
use Rattle.dataflow.specs.Points.{Before, Escapes}
use Rattle.points_to.specs.Nodes.{entry, memory, object_node}
use Rattle.points_to.specs.declared.reached.Reached.{Reached}
use Rattle.points_to.specs.declared.table.PointsTable.{PointsTable}

-- ---- marks that are kept

-- the marks of node `m` by a list of nodes and one of their marks; none where it isn't listed
abbrev pub word_of : List ℕ → List ℕ → ℕ → ℕ
word_of [] words m = 0
word_of (n ∷ nodes) [] m = 0
word_of (n ∷ nodes) (w ∷ words) m = if n == m then w else word_of nodes words m

-- nodes, their marks, and the marks of memory
pub record Kept : Type 0 where
  pub nodes : List ℕ
  pub words : List ℕ
  pub stored : ℕ

abbrev pub plain : Reached → Kept
plain r = record { nodes = r.nodes.items; words = r.words.items; stored = r.memory }

abbrev pub kept_word : Kept → ℕ → ℕ
kept_word kept m = word_of kept.nodes kept.words m

-- what is kept of the words of the nodes below `end`
pub record AreKept (word : ℕ → ℕ) (end : ℕ) (nodes words : List ℕ) : Type 0 where
  pub ascending : IsStrictlyIncreasing nodes
  pub below : (k d : ℕ) → k < length nodes → slice_index_or nodes k d < end
  pub one_each : length words ≡ length nodes
  pub exact : (m : ℕ) → m < end → word_of nodes words m ≡ word m

-- of the marks of the registers at the beginning of `n` blocks, and of memory
pub record Keeps (marks : List ℕ) (n : ℕ) (kept : Kept) : Type 0 where
  pub entries : (m : ℕ) → m < 32 * n → kept_word kept m ≡ word_at marks m
  pub in_memory : kept.stored ≡ word_at marks (memory n)

-- ---- marks that spread

-- no node has a mark
abbrev pub AreBare : List ℕ → Type 0
AreBare marks = (m : ℕ) → word_at marks m ≡ 0

-- mark `k` stands at the `k`-th of `count` nodes from `first` on, and no other does
pub record Begins (first count : ℕ) (marks : List ℕ) : Type 0 where
  pub only : (m k : ℕ) → HasMark (word_at marks m) k → m ≡ first + k
  pub there : (k : ℕ) → k < count → HasMark (word_at marks (first + k)) k

-- what such marks reach
pub record IsReached (rows : List (List Edge)) (n first count : ℕ) (kept : Kept) : Type 0 where
  pub start : List ℕ
  pub begins : Begins first count start
  pub entries : (m k : ℕ) → m < 32 * n → HasMark (kept_word kept m) k ↔ Reaches rows start m k
  pub in_memory : (k : ℕ) → HasMark kept.stored k ↔ Reaches rows start (memory n) k

-- nothing is reached
abbrev pub none_kept : Kept
none_kept = record { nodes = []; words = []; stored = 0 }

abbrev pub group_at : List Kept → ℕ → Kept
group_at groups j = slice_index_or groups j none_kept

-- the first `count` groups of 64 objects
pub record AreGroups (rows : List (List Edge)) (n objects count : ℕ) (groups : List Kept) : Type 0 where
  pub size : length groups ≡ count
  pub each : (j : ℕ) → j < count → IsReached rows n (object_node n (64 * j)) (min 64 (objects - 64 * j)) (group_at groups j)

-- ---- tables

-- the group of object `o`
abbrev pub group_of : List Kept → ℕ → Kept
group_of groups o = group_at groups (o / 64)

-- a node of a register is reached from object `o`, or by what is loaded, where the object reaches memory
abbrev pub Holds : Kept → List Kept → ℕ → ℕ → Type 0
Holds loads groups m o =
    HasMark (kept_word (group_of groups o) m) (o % 64) ⊎ (HasMark (group_of groups o).stored (o % 64) × HasMark (kept_word loads m) 0)

-- what is kept tells all facts about objects
pub record AreFacts (c : Code) (g : Graph) (loads : Kept) (groups : List Kept) : Type 0 where
  pub may : (o b x : ℕ) → IsBlockOf c b → x < 32 → Holds loads groups (entry b x) o ↔ Before c g b 0 x o
  pub escapes : (o : ℕ) → HasMark (group_of groups o).stored (o % 64) ↔ Escapes c g o

-- the table is that of a program
pub record IsTableOf (c : Code) (g : Graph) (t : PointsTable) : Type 0 where
  pub leaders : t.leaders.items ≡ starts_of c
  pub facts : AreFacts c g (plain t.loads) (map plain t.groups.items)
