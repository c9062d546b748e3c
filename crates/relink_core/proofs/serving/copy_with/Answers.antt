use Rattle.std.proofs.Common.{arith}
use Rattle.std.proofs.lemmas.Bool.Decides.{nat_tests}
use Rattle.relink_core.proofs.TablesMade.{numbered, no_copy}
use Rattle.relink_core.proofs.serving.copy_with.Goals as goal

pub returns-in-None : goal.returns-in-None
returns-in-None c =
    let w = c.args.plan.now in
    let is = numbered w c.args.block c.index.result.now c.index.result.now c.requires.plan c.requires.block c.index.ensures in
    let none = c.in-None.ensures.lookup.0 in
    no_copy w.copies.now c.args.block c.index.result.now is (grind (arith, nat_tests, none))
