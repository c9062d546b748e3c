use Rattle.std.proofs.Common.{◌≡◌, sym, subst, arith}
use Rattle.placement_programme.specs.Programme.{nothing}
use Rattle.placement_programme.specs.Views.{plain_programme}
use Rattle.branch_bound.specs.Growing.{CannotGrow}
use Rattle.branch_bound.specs.Searching.{choice_of}
use Rattle.branch_bound.proofs.SolveLemmas.{if_ok_more, start_cannot}
use Rattle.branch_bound.proofs.finishing.finish.Goals as goal

pub returns-then-best-eq0-clause-cannot : goal.returns-then-best-eq0-clause-cannot
returns-then-best-eq0-clause-cannot c =
    let p = plain_programme c.args.p.now in
    let zero = c.if-best-eq0.true in
    let order = c.requires.start.1.1 in
    let cannot = start_cannot p c.requires.start.0 c.requires.start.1.0 (omega (arith, zero, order)) in
    if_ok_more (λ more. choice_of p more ≡ nothing) (λ more. CannotGrow p (choice_of p more)) c.empty_incumbent.result (λ more is. subst (λ choice. CannotGrow p choice) (sym is) cannot) c.empty_incumbent.ensures.empty
