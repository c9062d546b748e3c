use Rattle.std.proofs.Common.{◌≡◌, ◌∙◌, List, [], ◌∷◌, ◌++◌, map, refl, ap}
use Rattle.std.proofs.lemmas.List.{append-nil}
use Rattle.certificate_checker.specs.NodeLists.{nodes_of, node_tree}
use Rattle.certificate_checker.specs.NodeViews.{plain_node}
use Rattle.certificate_checker.specs.Spelling.{IsTreeInRange}
use Rattle.certificate_checker.specs.declared.nodes.TreeNode.{TreeNode}
use Rattle.branch_bound.proofs.TrailLemmas.{closed_nodes}
use Rattle.branch_bound.proofs.certifying.one_node.Goals as goal

-- the nodes of a list of one
alone : (node : TreeNode) (before nodes : List TreeNode) → before ≡ [] → nodes ≡ before ++ node ∷ [] → IsTreeInRange 1 (node_tree (plain_node node)) → map plain_node nodes ≡ nodes_of (node_tree (plain_node node))
alone node before nodes none is few =
    ap (λ ns. map plain_node ns) (is ∙ ap (λ ns. ns ++ node ∷ []) none)
    ∙ (closed_nodes (plain_node node) [] (plain_node node ∷ []) few refl ∙ append-nil (nodes_of (node_tree (plain_node node))))

pub tree_of-requires : goal.tree_of-requires
tree_of-requires c =
    (node_tree (plain_node c.args.node), alone c.args.node c.new-nodes.result.items c.push.new.self.items c.new-nodes.ensures.items c.in_ok-push.ensures.items c.requires)

pub returns : goal.returns
returns c =
    c.tree_of.ensures (node_tree (plain_node c.args.node)) (alone c.args.node c.new-nodes.result.items c.push.new.self.items c.new-nodes.ensures.items c.in_ok-push.ensures.items c.requires)
