use Rattle.std.proofs.Common.{◌∷◌, slice_set, Ok, sym, subst, refl, arith}
use Rattle.placement_programme.specs.Views.{plain_side}
use Rattle.certificate_checker.specs.Rules.{BranchHolds}
use Rattle.certificate_checker.specs.Ways.{to_zero, written_step, SoFar}
use Rattle.certificate_checker.specs.declared.walking.Failing.{Failing}
use Rattle.certificate_checker.proofs.TallyLemmas.{fixed_exact}
use Rattle.certificate_checker.proofs.WayLemmas.{enters_failed, enters_wrong, enters_held}
use Rattle.certificate_checker.proofs.steps.enter.Goals as goal

pub returns-in-Err-clause-so_far : goal.returns-in-Err-clause-so_far
returns-in-Err-clause-so_far c judged best way long before =
    let s = plain_side c.args.side.now in
    let so_far = subst (λ o. SoFar s judged best way c.args.path.now c.args.assignment.now.marks.items o) c.in-Err.is before in
    enters_failed s judged best way c.args.path.now c.args.assignment.now.marks.items c.args.progress.depth c.args.var c.in-Err.failing long c.requires.inside so_far

pub returns-then-not-branch_holds-clause-so_far : goal.returns-then-not-branch_holds-clause-so_far
returns-then-not-branch_holds-clause-so_far c judged best way long before =
    let s = plain_side c.args.side.now in
    let so_far = subst (λ o. SoFar s judged best way c.args.path.now c.args.assignment.now.marks.items o) c.in-Ok.is before in
    let f : Failing = record { node = c.in-Ok.node; depth = c.args.progress.depth } in
    let depth = c.requires.depth in
    enters_wrong s judged best way c.args.path.now c.args.assignment.now.marks.items c.args.progress.depth c.in-Ok.node c.args.var f long c.requires.inside (omega (arith, depth)) refl refl
    (λ rule. let found = c.branch_holds.ensures.1 (subst (λ ms. BranchHolds s ms c.args.var) (sym c.deref.ensures.value) rule) in let missed = c.if-not-branch_holds.true in cc) so_far

pub returns-else-not-branch_holds-clause-so_far : goal.returns-else-not-branch_holds-clause-so_far
returns-else-not-branch_holds-clause-so_far c judged best way long before =
    let s = plain_side c.args.side.now in
    let rule = subst (λ ms. BranchHolds s ms c.args.var) c.deref.ensures.value (c.branch_holds.ensures.0 c.if-not-branch_holds.false) in
    let so_far = subst (λ o. SoFar s judged best way c.args.path.now c.args.assignment.now.marks.items o) c.in-Ok.is before in
    subst (λ ms. SoFar s judged best (to_zero c.args.var ∷ way) (slice_set c.args.path.now c.args.progress.depth (written_step (to_zero c.args.var))) ms (Ok c.next_number.result)) (sym c.fix_priced.ensures.fixes.marks)
    (enters_held s judged best way c.args.path.now c.args.assignment.now.marks.items c.args.progress.depth c.in-Ok.node c.next_number.result c.args.var long c.requires.inside c.next_number.ensures rule so_far)

pub returns-else-not-branch_holds-clause-exact : goal.returns-else-not-branch_holds-clause-exact
returns-else-not-branch_holds-clause-exact c = fixed_exact _ _ _ _ _ c.requires.exact c.fix_priced.ensures.fixes
