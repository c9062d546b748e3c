-- Which marks come to which nodes of a directed graph, whose edges let some marks pass.
use Rattle.std.specs.Prelude.{◌≡◌, ℕ, ◌<◌, List, [], map, length, slice_index_or, Vec}
use Rattle.std.specs.Global.{Global}
use Rattle.std.specs.Int.{bit_at}
use Rattle.reach_graph.specs.declared.edges.Edge.{Edge}

-- mark `k` is bit `k` of a word
abbrev pub HasMark : ℕ → ℕ → Type 0
HasMark word k = bit_at word k ≡ 1

-- the marks of node `n`
abbrev pub word_at : List ℕ → ℕ → ℕ
word_at marks n = slice_index_or marks n 0

abbrev pub no_edge : Edge
no_edge = record { to = 0; mask = 0 }

-- the edges of node `n`, and edge `i` of some
abbrev pub edges_of : List (List Edge) → ℕ → List Edge
edges_of rows n = slice_index_or rows n []

abbrev pub edge_at : List Edge → ℕ → Edge
edge_at row i = slice_index_or row i no_edge

abbrev pub edge_in : List (List Edge) → ℕ → ℕ → Edge
edge_in rows n i = edge_at (edges_of rows n) i

abbrev pub row_items : Vec Edge Global → List Edge
row_items row = row.items

abbrev pub plain_rows : List (Vec Edge Global) → List (List Edge)
plain_rows rows = map row_items rows

-- all edges lead to nodes below `count`
abbrev pub AreInside : List (List Edge) → ℕ → Type 0
AreInside rows count = (n i : ℕ) → n < length rows → i < length (edges_of rows n) → (edge_in rows n i).to < count

-- The least relation with these rules: a mark that stands at a node at the start comes there; and a mark that comes
-- to a node passes along each of its edges that lets it.
pub data Reaches (rows : List (List Edge)) (marks : List ℕ) : ℕ → ℕ → Type 0 where
  stands : (n k : ℕ) → HasMark (word_at marks n) k → Reaches rows marks n k
  passes : (n i k : ℕ) → Reaches rows marks n k → i < length (edges_of rows n) → HasMark (edge_in rows n i).mask k
      → Reaches rows marks (edge_in rows n i).to k
