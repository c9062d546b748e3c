-- Nodes that wait, each once.
use Rattle.std.specs.Prelude.{◌≡◌, ℕ, ◌<◌, ◌+◌, Bool, true, false, List, [], ◌∷◌, ◌++◌, length, slice_index_or, slice_set, Contains, Option, Some, None}
use Rattle.reach_graph.specs.Reaching.{word_at}

-- node `n` is said to wait
abbrev pub waits_at : List Bool → ℕ → Bool
waits_at waits n = slice_index_or waits n false

-- those that are said to wait do, and all that wait are nodes
pub record IsQueue (waiting : List ℕ) (waits : List Bool) : Type 0 where
  pub listed : (n : ℕ) → waits_at waits n ≡ true → Contains waiting n
  pub inside : (n : ℕ) → Contains waiting n → n < length waits

-- of the first `count` nodes those that have a mark wait
pub record StartsWith (marks : List ℕ) (count : ℕ) (waiting : List ℕ) (waits : List Bool) : Type 0 where
  pub size : length waits ≡ length marks
  pub queue : IsQueue waiting waits
  pub marked : (n : ℕ) → n < count → waits_at waits n ≡ false → word_at marks n ≡ 0

-- a node waits now, if it didn't before
pub record IsAdded (node : ℕ) (waiting : List ℕ) (waits : List Bool) (waiting' : List ℕ) (waits' : List Bool) : Type 0 where
  pub size : length waits' ≡ length waits
  pub few : length waiting' < length waiting + 2
  pub queue : IsQueue waiting waits → IsQueue waiting' waits'
  pub here : waits_at waits' node ≡ true
  pub others : (n : ℕ) → waits_at waits n ≡ true → waits_at waits' n ≡ true

-- no node waited, or the last one waits no more
abbrev pub IsTaken : List ℕ → List Bool → Option ℕ → List ℕ → List Bool → Type 0
IsTaken waiting waits None waiting' waits' = (waiting ≡ []) × ((waiting' ≡ waiting) × (waits' ≡ waits))
IsTaken waiting waits (Some node) waiting' waits' =
    (node < length waits) × ((waiting ≡ waiting' ++ node ∷ []) × ((waits' ≡ slice_set waits node false) × IsQueue waiting' waits'))
