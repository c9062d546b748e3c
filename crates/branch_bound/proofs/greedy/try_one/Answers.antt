use Rattle.std.proofs.Common.{◌∙◌, inr, ap, MatchOption, sym, subst}
use Rattle.placement_programme.specs.Programme.{Fits}
use Rattle.placement_programme.specs.Views.{plain_side}
use Rattle.certificate_checker.specs.Fixings.{fixing_of}
use Rattle.certificate_checker.specs.Rules.{OverHolds}
use Rattle.certificate_checker.specs.declared.fixings.Fixing.TheVariants.{One}
use Rattle.branch_bound.specs.Assignments.{taken}
use Rattle.branch_bound.specs.Exceeding.{ExceedsOnlyRowsOf}
use Rattle.branch_bound.proofs.OnesLemmas.{over_not_fits}
use Rattle.branch_bound.proofs.ExceedLemmas.{one_exceeds}
use Rattle.branch_bound.proofs.MarkLemmas.{back_once}
use Rattle.branch_bound.proofs.greedy.try_one.Goals as goal

pub exceeded-requires-clause-only : goal.exceeded-requires-clause-only
exceeded-requires-clause-only c =
    let s = plain_side c.args.side.now in
    subst (λ ms. ExceedsOnlyRowsOf s ms c.args.number) (sym c.fix_one.ensures.marks)
    (one_exceeds s c.args.node.now.marks.items c.args.number c.requires.number c.requires.tallies.marked c.requires.fits)

pub returns-in-Some-clause-tries : goal.returns-in-Some-clause-tries
returns-in-Some-clause-tries c =
    let s = plain_side c.args.side.now in
    let marks = c.args.node.now.marks.items in
    let over = subst (λ o. MatchOption o (Fits s (taken s c.fix_one.new.self.marks.items)) (OverHolds s c.fix_one.new.self.marks.items)) c.in-Some.is c.exceeded.ensures in
    let old = c.fixing_of-old.ensures ∙ ap (λ ms. fixing_of ms c.args.number) c.deref.ensures.value in
    let back = c.fix.ensures.marks ∙ back_once marks c.fix_one.new.self.marks.items c.args.number One c.fixing_of-old.result c.fix_one.ensures.marks old in
    inr (λ fits. over_not_fits s c.fix_one.new.self.marks.items c.in-Some.field-0 over (subst (λ ms. Fits s (taken s ms)) (sym c.fix_one.ensures.marks) fits), back)

pub returns-in-Some-clause-fits : goal.returns-in-Some-clause-fits
returns-in-Some-clause-fits c =
    let s = plain_side c.args.side.now in
    let old = c.fixing_of-old.ensures ∙ ap (λ ms. fixing_of ms c.args.number) c.deref.ensures.value in
    let back = c.fix.ensures.marks ∙ back_once c.args.node.now.marks.items c.fix_one.new.self.marks.items c.args.number One c.fixing_of-old.result c.fix_one.ensures.marks old in
    subst (λ ms. Fits s (taken s ms)) (sym back) c.requires.fits
