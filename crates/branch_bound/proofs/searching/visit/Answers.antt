use Rattle.std.proofs.Common.{MatchOption, refl, subst, arith}
use Rattle.placement_programme.specs.Programme.{Fits}
use Rattle.placement_programme.specs.Views.{plain_side}
use Rattle.certificate_checker.specs.Rules.{OverHolds}
use Rattle.branch_bound.specs.Assignments.{taken}
use Rattle.branch_bound.proofs.OnesLemmas.{over_not_fits}
use Rattle.branch_bound.proofs.searching.visit.Goals as goal

pub returns-in-Some-exceeded-clause-tried : goal.returns-in-Some-exceeded-clause-tried
returns-in-Some-exceeded-clause-tried c =
    let s = plain_side c.args.task.now.side.now in
    let marks = c.args.node.now.marks.items in
    let over = subst (λ o. MatchOption o (Fits s (taken s marks)) (OverHolds s marks)) c.in-Some-exceeded.is c.exceeded.ensures in
    record {
      here = λ fits. absurd (over_not_fits s marks c.in-Some-exceeded.row over fits);
      grows = omega arith;
      left = refl;
      keeps = λ p is best. best;
    }
