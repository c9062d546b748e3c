use Rattle.std.proofs.Common.{◌≡◌, ◌++◌, take}
use Rattle.std.specs.List.{flat_map}
use Rattle.certificate_checker.specs.NodeViews.{plain_node}
use Rattle.certificate_checker.specs.Spelling.{node_text}
use Rattle.certificate_checker.proofs.writing.push_nodes.Given as goal

abbrev pub invariant-loop-node : goal.invariant-loop-node
invariant-loop-node l = l.out.items ≡ l.fn.out.items ++ flat_map (λ node. node_text (plain_node node)) (take l.node-index l.nodes)
