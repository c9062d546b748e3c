use Rattle.std.proofs.Common.{◌∙◌, false, None, option_map, ap, refl, sym, subst}
use Rattle.placement_programme.specs.Views.{plain_programme}
use Rattle.branch_bound.specs.Assignments.{taken}
use Rattle.branch_bound.specs.Greedy.{IsGreedy}
use Rattle.branch_bound.specs.Growing.{CannotGrow}
use Rattle.branch_bound.proofs.GrowLemmas.{nothing_cannot, some_cannot}
use Rattle.branch_bound.proofs.greedy.fill.Goals as goal

pub returns-in-None-clause-grown : goal.returns-in-None-clause-grown
returns-in-None-clause-grown c =
    let p = plain_programme c.args.p.now in
    let greedy = subst (λ o. IsGreedy p.off (option_map (λ m. taken p.off m.marks.items) o)) c.in-None.is c.in_ok-greedy.ensures.greedy in
    subst (λ choice. CannotGrow p choice) (sym c.nothing.ensures) (nothing_cannot p None greedy refl)

pub returns-in_ok-take-in-Some-clause-grown : goal.returns-in_ok-take-in-Some-clause-grown
returns-in_ok-take-in-Some-clause-grown c =
    let p = plain_programme c.args.p.now in
    let greedy = subst (λ o. IsGreedy p.off (option_map (λ m. taken p.off m.marks.items) o)) c.in-Some.is c.in_ok-greedy.ensures.greedy in
    let same = c.in_ok-take-in-Some.ensures ∙ ap (λ m. taken p.off m) c.deref.ensures.value in
    subst (λ t. CannotGrow p record { on = false; take = t }) (sym same) (some_cannot p (taken p.off c.in-Some.node.marks.items) greedy)
