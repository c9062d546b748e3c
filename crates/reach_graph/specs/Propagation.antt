-- What is known while marks spread along edges.
use Rattle.std.specs.Prelude.{◌≡◌, ◌≢◌, ◌⊎◌, ℕ, ◌<◌, ◌≤◌, ◌+◌, ◌-◌, Bool, true, false, List, [], ◌∷◌, length, bit_or}
use Rattle.reach_graph.specs.declared.edges.Edge.{Edge}
use Rattle.reach_graph.specs.Reaching.{HasMark, word_at, edges_of, edge_at, Reaches}
use Rattle.reach_graph.specs.Queues.{waits_at, IsQueue}

-- how much may come to the nodes still: a word grows below 2 ^ 64
abbrev pub missing : List ℕ → ℕ
missing [] = 0
missing (w ∷ ws) = (18446744073709551616 - w) + missing ws

-- the edges of a row lead to nodes below `count`
abbrev pub IsRow : List Edge → ℕ → Type 0
IsRow row count = (i : ℕ) → i < length row → (edge_at row i).to < count

-- all marks that were there still are, a node that waited still does, one to which marks came does, and each step to
-- a node that waits is paid for by a mark that came
pub record GoesOn (marks waiting : List ℕ) (waits : List Bool) (marks' waiting' : List ℕ) (waits' : List Bool) : Type 0 where
  pub size : length marks' ≡ length marks
  pub waits_size : length waits' ≡ length waits
  pub queue : IsQueue waiting waits → IsQueue waiting' waits'
  pub more : (n k : ℕ) → HasMark (word_at marks n) k → HasMark (word_at marks' n) k
  pub same : (n : ℕ) → waits_at waits' n ≡ false → word_at marks' n ≡ word_at marks n
  pub still : (n : ℕ) → waits_at waits n ≡ true → waits_at waits' n ≡ true
  pub less : missing marks' + length waiting' ≤ missing marks + length waiting

-- marks came to one node
pub record IsGrown (node by : ℕ) (marks waiting : List ℕ) (waits : List Bool) (marks' waiting' : List ℕ) (waits' : List Bool) : Type 0 where
  pub goes_on : GoesOn marks waiting waits marks' waiting' waits'
  pub here : word_at marks' node ≡ bit_or (word_at marks node) by
  pub others : (n : ℕ) → n ≢ node → word_at marks' n ≡ word_at marks n

-- one of the first `count` edges of a row lets mark `k` of `by` pass to node `n`
pub record PassesTo (row : List Edge) (count by n k : ℕ) : Type 0 where
  pub i : ℕ
  pub below : i < count
  pub leads : (edge_at row i).to ≡ n
  pub marked : HasMark by k
  pub lets : HasMark (edge_at row i).mask k

-- the marks `by` passed along the first `count` edges of a row, and no others came
pub record IsPropagated (row : List Edge) (count by : ℕ) (marks waiting : List ℕ) (waits : List Bool) (marks' waiting' : List ℕ) (waits' : List Bool) : Type 0 where
  pub goes_on : GoesOn marks waiting waits marks' waiting' waits'
  pub passed : (n k : ℕ) → PassesTo row count by n k → HasMark (word_at marks' n) k
  pub only : (n k : ℕ) → HasMark (word_at marks' n) k → HasMark (word_at marks n) k ⊎ PassesTo row count by n k

-- the marks of node `n` passed along its edges
abbrev pub IsClosed : List (List Edge) → List ℕ → ℕ → Type 0
IsClosed rows marks n = (m k : ℕ) → PassesTo (edges_of rows n) (length (edges_of rows n)) (word_at marks n) m k → HasMark (word_at marks m) k

-- from the marks `first`: each mark comes where it is, and passed on from each node that doesn't wait
pub record IsPropagating (rows : List (List Edge)) (first marks waiting : List ℕ) (waits : List Bool) : Type 0 where
  pub size : length marks ≡ length first
  pub waits_size : length waits ≡ length first
  pub queue : IsQueue waiting waits
  pub kept : (n k : ℕ) → HasMark (word_at first n) k → HasMark (word_at marks n) k
  pub sound : (n k : ℕ) → HasMark (word_at marks n) k → Reaches rows first n k
  pub closed : (n : ℕ) → waits_at waits n ≡ false → IsClosed rows marks n
