-- A tree as the list of its nodes, in the order of its text.
use Rattle.std.specs.Prelude.{ℕ, zero, suc, List, [], ◌∷◌, ◌++◌, Option, Some, None}
use Rattle.certificate_checker.specs.Nodes.{PlainTree, branch, over, dual, leaf}

-- a node alone
pub data PlainNode : Type 0 where
  branch_node : (var : ℕ) → PlainNode
  over_node : (row : ℕ) → PlainNode
  dual_node : (scale : ℕ) (multipliers : List (ℕ × ℕ)) → PlainNode
  leaf_node : PlainNode

-- a branch, the nodes of its child for zero, and those of its child for one
abbrev pub nodes_of : PlainTree → List PlainNode
nodes_of (branch j l r) = branch_node j ∷ (nodes_of l ++ nodes_of r)
nodes_of (over row) = over_node row ∷ []
nodes_of (dual scale ms) = dual_node scale ms ∷ []
nodes_of leaf = leaf_node ∷ []

-- a node as a tree; a branch has leaves for children
abbrev pub node_tree : PlainNode → PlainTree
node_tree (branch_node j) = branch j leaf leaf
node_tree (over_node row) = over row
node_tree (dual_node scale ms) = dual scale ms
node_tree leaf_node = leaf

abbrev pub first_tree : List PlainTree → PlainTree
first_tree [] = leaf
first_tree (t ∷ ts) = t

abbrev pub other_trees : List PlainTree → List PlainTree
other_trees [] = []
other_trees (t ∷ ts) = ts

-- a node before the trees that stand behind it: a branch takes two of them
abbrev pub with_node : PlainNode → List PlainTree → List PlainTree
with_node (branch_node j) ts = branch j (first_tree ts) (first_tree (other_trees ts)) ∷ other_trees (other_trees ts)
with_node (over_node row) ts = over row ∷ ts
with_node (dual_node scale ms) ts = dual scale ms ∷ ts
with_node leaf_node ts = leaf ∷ ts

abbrev pub trees_of : List PlainNode → List PlainTree
trees_of [] = []
trees_of (n ∷ ns) = with_node n (trees_of ns)

-- the tree that has these nodes
abbrev pub tree_of : List PlainNode → PlainTree
tree_of ns = first_tree (trees_of ns)

-- how many trees have these nodes; None where a branch has no two of them behind it
abbrev pub one_more : Option ℕ → Option ℕ
one_more None = None
one_more (Some n) = Some (suc n)

abbrev pub one_of_two : Option ℕ → Option ℕ
one_of_two None = None
one_of_two (Some zero) = None
one_of_two (Some (suc zero)) = None
one_of_two (Some (suc (suc n))) = Some (suc n)

abbrev pub count_with : PlainNode → Option ℕ → Option ℕ
count_with (branch_node j) n = one_of_two n
count_with (over_node row) n = one_more n
count_with (dual_node scale ms) n = one_more n
count_with leaf_node n = one_more n

abbrev pub tree_count : List PlainNode → Option ℕ
tree_count [] = Some 0
tree_count (n ∷ ns) = count_with n (tree_count ns)
