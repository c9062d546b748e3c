-- A tree and the list of its nodes.
use Rattle.std.proofs.Common.{◌≡◌, ◌∙◌, ℕ, zero, suc, List, [], ◌∷◌, ◌++◌, map, length, Option, Some, None, refl, sym, ap, append_assoc, arith}
use Rattle.std.specs.List.{flat_map}
use Rattle.std.proofs.lemmas.Grind.{flat_map-append}
use Rattle.std.proofs.lemmas.List.Folds.{flat_map-map}
use Rattle.std.proofs.lemmas.List.Concat.{flat_map-cons}
use Rattle.certificate_checker.specs.Nodes.{PlainTree, branch, over, dual, leaf}
use Rattle.certificate_checker.specs.NodeLists.{PlainNode, branch_node, over_node, dual_node, leaf_node, nodes_of, first_tree, with_node, trees_of, tree_of, one_more, one_of_two, tree_count}
use Rattle.certificate_checker.specs.NodeViews.{plain_node}
use Rattle.certificate_checker.specs.declared.nodes.TreeNode.{TreeNode}
use Rattle.certificate_checker.specs.Spelling.{tree_text, node_text}

-- what is read of a tree's nodes
pub trees_again : (t : PlainTree) (ns : List PlainNode) → trees_of (nodes_of t ++ ns) ≡ t ∷ trees_of ns
trees_again (branch j l r) ns =
    ap (λ ms. with_node (branch_node j) (trees_of ms)) (append_assoc (nodes_of l) (nodes_of r) ns)
    ∙ ap (with_node (branch_node j)) (trees_again l (nodes_of r ++ ns) ∙ ap (λ ts. l ∷ ts) (trees_again r ns))
trees_again (over row) ns = refl
trees_again (dual scale ms) ns = refl
trees_again leaf ns = refl

two_more : (n : Option ℕ) → one_of_two (one_more (one_more n)) ≡ one_more n
two_more None = refl
two_more (Some n) = refl

counts_again : (t : PlainTree) (ns : List PlainNode) → tree_count (nodes_of t ++ ns) ≡ one_more (tree_count ns)
counts_again (branch j l r) ns =
    ap (λ ms. one_of_two (tree_count ms)) (append_assoc (nodes_of l) (nodes_of r) ns)
    ∙ (ap one_of_two (counts_again l (nodes_of r ++ ns) ∙ ap one_more (counts_again r ns)) ∙ two_more (tree_count ns))
counts_again (over row) ns = refl
counts_again (dual scale ms) ns = refl
counts_again leaf ns = refl

none_behind : {A : Type 0} (ns : List A) → ns ++ [] ≡ ns
none_behind [] = refl
none_behind (n ∷ ns) = ap (λ ms. n ∷ ms) (none_behind ns)

pub tree_again : (t : PlainTree) → tree_of (nodes_of t) ≡ t
tree_again t = ap tree_of (sym (none_behind (nodes_of t))) ∙ ap first_tree (trees_again t [])

pub counts_one : (t : PlainTree) → tree_count (nodes_of t) ≡ Some 1
counts_one t = ap tree_count (sym (none_behind (nodes_of t))) ∙ counts_again t []

-- nodes that are so many trees
record AreTrees (ns : List PlainNode) (k : ℕ) : Type 0 where
  nodes : ns ≡ flat_map nodes_of (trees_of ns)
  many : length (trees_of ns) ≡ k

not_some : (k : ℕ) → None ≡ Some k → ⊥
not_some k is = cc

joined_nodes : (j k : ℕ) (ns : List PlainNode) (ts : List PlainTree) → ns ≡ flat_map nodes_of ts → length ts ≡ suc (suc k) → branch_node j ∷ ns ≡ flat_map nodes_of (with_node (branch_node j) ts)
joined_nodes j k ns [] is long = absurd (omega (arith, long))
joined_nodes j k ns (z ∷ []) is long = absurd (omega (arith, long))
joined_nodes j k ns (z ∷ o ∷ ts) is long =
    ap (λ ms. branch_node j ∷ ms) (is ∙ (flat_map-cons nodes_of z (o ∷ ts) ∙ (ap (λ ms. nodes_of z ++ ms) (flat_map-cons nodes_of o ts) ∙ sym (append_assoc (nodes_of z) (nodes_of o) (flat_map nodes_of ts)))))
    ∙ sym (flat_map-cons nodes_of (branch j z o) ts)

joined_many : (j k : ℕ) (ts : List PlainTree) → length ts ≡ suc (suc k) → length (with_node (branch_node j) ts) ≡ suc k
joined_many j k [] long = absurd (omega (arith, long))
joined_many j k (z ∷ []) long = absurd (omega (arith, long))
joined_many j k (z ∷ o ∷ ts) long = omega (arith, long)

single_nodes : (t : PlainTree) (n : PlainNode) (ns : List PlainNode) (ts : List PlainTree) → nodes_of t ≡ n ∷ [] → ns ≡ flat_map nodes_of ts → n ∷ ns ≡ flat_map nodes_of (t ∷ ts)
single_nodes t n ns ts single is =
    ap (λ ms. n ∷ ms) is ∙ (ap (λ ms. ms ++ flat_map nodes_of ts) (sym single) ∙ sym (flat_map-cons nodes_of t ts))

one_less : (k : ℕ) (n : Option ℕ) → one_more n ≡ Some k → (m : ℕ) × ((n ≡ Some m) × (k ≡ suc m))
one_less k None is = absurd (not_some k is)
one_less k (Some n) is = (n, (refl, cc))

two_less : (k : ℕ) (n : Option ℕ) → one_of_two n ≡ Some k → (m : ℕ) × ((n ≡ Some (suc (suc m))) × (k ≡ suc m))
two_less k None is = absurd (not_some k is)
two_less k (Some zero) is = absurd (not_some k is)
two_less k (Some (suc zero)) is = absurd (not_some k is)
two_less k (Some (suc (suc n))) is = (n, (refl, cc))

are_trees : (ns : List PlainNode) (k : ℕ) → tree_count ns ≡ Some k → AreTrees ns k
are_trees [] k is = record { nodes = refl; many = cc }
are_trees (branch_node j ∷ ns) k is =
    let less = two_less k (tree_count ns) is in
    let rest = are_trees ns (suc (suc less.0)) less.1.0 in
    record {
      nodes = joined_nodes j less.0 ns (trees_of ns) rest.nodes rest.many;
      many = joined_many j less.0 (trees_of ns) rest.many ∙ sym less.1.1;
    }
are_trees (over_node row ∷ ns) k is =
    let less = one_less k (tree_count ns) is in
    let rest = are_trees ns less.0 less.1.0 in
    record { nodes = single_nodes (over row) (over_node row) ns (trees_of ns) refl rest.nodes; many = ap suc rest.many ∙ sym less.1.1 }
are_trees (dual_node scale ms ∷ ns) k is =
    let less = one_less k (tree_count ns) is in
    let rest = are_trees ns less.0 less.1.0 in
    record { nodes = single_nodes (dual scale ms) (dual_node scale ms) ns (trees_of ns) refl rest.nodes; many = ap suc rest.many ∙ sym less.1.1 }
are_trees (leaf_node ∷ ns) k is =
    let less = one_less k (tree_count ns) is in
    let rest = are_trees ns less.0 less.1.0 in
    record { nodes = single_nodes leaf leaf_node ns (trees_of ns) refl rest.nodes; many = ap suc rest.many ∙ sym less.1.1 }

only_one : (ts : List PlainTree) → length ts ≡ 1 → flat_map nodes_of ts ≡ nodes_of (first_tree ts)
only_one [] long = absurd (omega (arith, long))
only_one (t ∷ []) long = flat_map-cons nodes_of t [] ∙ none_behind (nodes_of t)
only_one (t ∷ u ∷ ts) long = absurd (omega (arith, long))

-- the nodes of one tree
pub whole_nodes : (ns : List PlainNode) → tree_count ns ≡ Some 1 → ns ≡ nodes_of (tree_of ns)
whole_nodes ns is =
    let all = are_trees ns 1 is in
    all.nodes ∙ only_one (trees_of ns) all.many

-- the text of a tree is that of its nodes
pub nodes_text : (t : PlainTree) → flat_map node_text (nodes_of t) ≡ tree_text t
nodes_text (branch j l r) =
    flat_map-cons node_text (branch_node j) (nodes_of l ++ nodes_of r)
    ∙ ap (λ text. node_text (branch_node j) ++ text) (flat_map-append node_text (nodes_of l) (nodes_of r) ∙ (ap (λ text. text ++ flat_map node_text (nodes_of r)) (nodes_text l) ∙ ap (λ text. tree_text l ++ text) (nodes_text r)))
nodes_text (over row) = flat_map-cons node_text (over_node row) [] ∙ none_behind (node_text (over_node row))
nodes_text (dual scale ms) = flat_map-cons node_text (dual_node scale ms) [] ∙ none_behind (node_text (dual_node scale ms))
nodes_text leaf = refl

pub tree_written : (nodes : List TreeNode) → tree_count (map plain_node nodes) ≡ Some 1 → flat_map (λ node. node_text (plain_node node)) nodes ≡ tree_text (tree_of (map plain_node nodes))
tree_written nodes whole =
    sym (flat_map-map node_text plain_node nodes)
    ∙ (ap (λ ns. flat_map node_text ns) (whole_nodes (map plain_node nodes) whole) ∙ nodes_text (tree_of (map plain_node nodes)))
