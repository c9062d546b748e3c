use Rattle.std.proofs.Common.{◌∙◌, ap}
use Rattle.certificate_checker.specs.NodeLists.{tree_of, tree_count}
use Rattle.certificate_checker.proofs.NodeLemmas.{counts_one, tree_again}
use Rattle.certificate_checker.proofs.assembling.tree_of.Goals as goal

pub invariant_of-result : goal.invariant_of-result
invariant_of-result c =
    record { whole = ap (λ ns. tree_count ns) c.requires.1 ∙ counts_one c.requires.0 }

pub returns : goal.returns
returns c = λ tree is. ap (λ ns. tree_of ns) is ∙ tree_again tree
