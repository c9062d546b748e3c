use Rattle.std.proofs.Common.{◌∙◌, ◌++◌, ap}
use Rattle.std.specs.List.{flat_map}
use Rattle.certificate_checker.specs.NodeViews.{plain_node}
use Rattle.certificate_checker.specs.Spelling.{node_text}
use Rattle.certificate_checker.proofs.NodeLemmas.{tree_written}
use Rattle.certificate_checker.proofs.writing.push_tree.Goals as goal

pub returns-in-Ok : goal.returns-in-Ok
returns-in-Ok c =
    c.in-Ok.ensures
    ∙ ap (λ text. c.args.out.now.items ++ text) (ap (λ ns. flat_map (λ node. node_text (plain_node node)) ns) c.deref.ensures.value ∙ tree_written c.args.tree.now.nodes.items c.args.tree.now.whole)
