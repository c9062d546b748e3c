use Rattle.std.proofs.Common.{IsSomeAnd, subst, arith}
use Rattle.placement_programme.specs.Programme.{Fits}
use Rattle.placement_programme.specs.Views.{plain_side, plain_programme}
use Rattle.branch_bound.specs.Assignments.{AreMarksOf}
use Rattle.branch_bound.proofs.ChoiceLemmas.{chosen_incumbent}
use Rattle.branch_bound.proofs.starting.better.Goals as goal

pub returns-in_ok-marks_of-in-Some-clause-incumbent : goal.returns-in_ok-marks_of-in-Some-clause-incumbent
returns-in_ok-marks_of-in-Some-clause-incumbent c =
    let p = plain_programme c.args.p.now in
    let s = plain_side c.in-Some.side.now in
    let take = c.args.found.now.choice.take.items in
    let more = c.if-found-start.false in
    let fits = subst (λ side. IsSomeAnd side (λ t. Fits t take)) c.in-Some.ensures c.requires.sound.feasible in
    let are = subst (λ ks. AreMarksOf s ks c.in_ok-marks_of-in-Some.field-0.items) c.deref.ensures.value c.in_ok-marks_of-in-Some.ensures in
    chosen_incumbent p s _ take c.in-Some.ensures fits c.requires.sound (omega (arith, more)) are
