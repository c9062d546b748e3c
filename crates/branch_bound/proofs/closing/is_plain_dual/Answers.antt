use Rattle.std.proofs.Common.{arith}
use Rattle.std.proofs.lemmas.Bool.Decides.{nat_tests}
use Rattle.placement_programme.specs.Views.{plain_side}
use Rattle.branch_bound.proofs.OpenLemmas.{plain_dual_is}
use Rattle.branch_bound.proofs.closing.is_plain_dual.Goals as goal

pub returns : goal.returns
returns c =
    let same = plain_dual_is (plain_side c.args.side.now) c.args.best c.args.node.now.bound c.args.node.now.marks.items c.requires.tallies.bound in (
      λ holds. same.0 (grind (arith, nat_tests, holds)),
      λ dual. let less = same.1 dual in grind (arith, nat_tests, less),
    )
