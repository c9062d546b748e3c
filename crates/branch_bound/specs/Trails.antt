-- The way of a search from the root to a node, and what is known there.
use Rattle.std.specs.Prelude.{◌≡◌, ℕ, List, [], ◌∷◌, ◌++◌, map, reverse, slice_set, Option, Some}
use Rattle.certificate_checker.specs.Nodes.{PlainTree}
use Rattle.certificate_checker.specs.NodeLists.{PlainNode, nodes_of}
use Rattle.certificate_checker.specs.NodeViews.{plain_node}
use Rattle.certificate_checker.specs.declared.fixings.Fixing.{Fixing}
use Rattle.certificate_checker.specs.declared.fixings.Fixing.TheVariants.{Zero, One}
use Rattle.branch_bound.specs.declared.open_branches.OpenBranch.{OpenBranch}
use Rattle.branch_bound.specs.declared.open_branches.OpenBranch.TheVariants.{ToOne, ToZero}
use Rattle.branch_bound.specs.declared.trails.Trail.{Trail}

-- the open branches and the closed nodes, the last first
abbrev pub steps_on : Trail → List OpenBranch
steps_on trail = reverse trail.steps.items

abbrev pub nodes_on : Trail → List PlainNode
nodes_on trail = map plain_node (reverse trail.closed.items)

-- the variable's number or place
abbrev pub place_of : OpenBranch → ℕ
place_of (ToOne place) = place
place_of (ToZero place) = place

-- The way from the root to a node with these marks, and how the search stood before the node. `number` gives the variable
-- of a branch, `Opened` tells what is known of a branch that was visited, and `Finds` what the search below some marks
-- found. Of each step to a child for zero the tree of the child for one is kept, the last first.
pub data Way {R : Type 0} (number : ℕ → ℕ) (Opened : ℕ → List Fixing → R → R → Type 0) (Finds : List Fixing → R → R → Option PlainTree → Type 0) (root : List Fixing) (start : R) : List OpenBranch → List PlainNode → List Fixing → R → Type 0 where
  at_root : Way number Opened Finds root start [] [] root start
  in_one : {steps : List OpenBranch} {nodes : List PlainNode} {marks : List Fixing} {old new : R} {place : ℕ} → Way number Opened Finds root start steps nodes marks old → Opened place marks old new → Way number Opened Finds root start (ToOne place ∷ steps) nodes (slice_set marks (number place) One) new
  in_zero : {steps : List OpenBranch} {nodes : List PlainNode} {marks : List Fixing} {old middle new : R} {place : ℕ} {tree : PlainTree} → Way number Opened Finds root start steps nodes marks old → Opened place marks old middle → Finds (slice_set marks (number place) One) middle new (Some tree) → Way number Opened Finds root start (ToZero place ∷ steps) (nodes_of tree ++ nodes) (slice_set marks (number place) Zero) new

-- behind a node: its tree is closed, too
pub record IsBehind {R : Type 0} (number : ℕ → ℕ) (Opened : ℕ → List Fixing → R → R → Type 0) (Finds : List Fixing → R → R → Option PlainTree → Type 0) (root : List Fixing) (start : R) (steps : List OpenBranch) (nodes : List PlainNode) (marks : List Fixing) (new : R) : Type 0 where
  pub tree : PlainTree
  pub others : List PlainNode
  pub old : R
  pub split : nodes ≡ nodes_of tree ++ others
  pub way : Way number Opened Finds root start steps others marks old
  pub finds : Finds marks old new (Some tree)

-- the whole tree is closed
pub record IsWhole {R : Type 0} (Finds : List Fixing → R → R → Option PlainTree → Type 0) (root : List Fixing) (start : R) (nodes : List PlainNode) (marks : List Fixing) (new : R) : Type 0 where
  pub tree : PlainTree
  pub split : nodes ≡ nodes_of tree
  pub same : marks ≡ root
  pub finds : Finds root start new (Some tree)
