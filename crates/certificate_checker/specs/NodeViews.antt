-- What a node of the code is as a plain one.
use Rattle.certificate_checker.specs.NodeLists.{PlainNode, branch_node, over_node, dual_node, leaf_node}
use Rattle.certificate_checker.specs.declared.nodes.TreeNode.{TreeNode}
use Rattle.certificate_checker.specs.declared.nodes.TreeNode.TheVariants.{Branch, Over, Dual, Leaf}

abbrev pub plain_node : TreeNode → PlainNode
plain_node (Branch j) = branch_node j
plain_node (Over row) = over_node row
plain_node (Dual scale ms) = dual_node scale ms.items
plain_node Leaf = leaf_node
