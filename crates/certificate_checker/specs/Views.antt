-- What trees, certificates and verdicts of the code are as plain lists and numbers.
use Rattle.std.specs.Prelude.{map, option_map}
use Rattle.placement_programme.specs.Views.{plain_choice}
use Rattle.certificate_checker.specs.Nodes.{PlainTree, PlainCertificate}
use Rattle.certificate_checker.specs.NodeLists.{tree_of}
use Rattle.certificate_checker.specs.NodeViews.{plain_node}
use Rattle.certificate_checker.specs.Shows.{PlainVerdict, optimal, best_found, bad_choice, wrong}
use Rattle.certificate_checker.specs.declared.trees.Tree.{Tree}
use Rattle.certificate_checker.specs.declared.trees.Certificate.{Certificate}
use Rattle.certificate_checker.specs.declared.verdict.Verdict.{Verdict}
use Rattle.certificate_checker.specs.declared.verdict.Verdict.TheVariants.{Optimal, BestFound, BadChoice, Wrong}

abbrev pub plain_tree : Tree → PlainTree
plain_tree tree = tree_of (map plain_node tree.nodes.items)

abbrev pub plain_certificate : Certificate → PlainCertificate
plain_certificate c =
    record { choice = plain_choice c.choice; off = option_map plain_tree c.off; on = option_map plain_tree c.on }

abbrev pub plain_verdict : Verdict → PlainVerdict
plain_verdict Optimal = optimal
plain_verdict BestFound = best_found
plain_verdict BadChoice = bad_choice
plain_verdict (Wrong side node depth) = wrong side node depth
