use Rattle.std.proofs.Common.{◌∙◌, ◌-◌, slice_set, sym, ap, subst, arith}
use Rattle.certificate_checker.specs.Ways.{IsBehind, IsBefore, marked, step_to_one}
use Rattle.certificate_checker.specs.declared.steps.PathStep.{PathStep}
use Rattle.certificate_checker.specs.declared.fixings.Fixing.TheVariants.{One, Free}
use Rattle.certificate_checker.proofs.WayLemmas.{risen, turned}
use Rattle.certificate_checker.proofs.steps.leave.Goals as goal

pub returns-then-step-clause-stands : goal.returns-then-step-clause-stands
returns-then-step-clause-stands c x rest b =
    let o = c.args.progress.so_far in
    let last = c.args.progress.depth - 1 in
    let marks = c.args.assignment.now.marks.items in
    let some = c.requires.step.some in
    let step = c.step_in-step.ensures in
    subst (λ ms. IsBehind x c.args.path.now ms last o rest) (sym c.set_mark.ensures.marks)
    (subst (λ (s : PathStep). IsBehind x c.args.path.now (marked marks s.var Free o) last o rest) (sym step)
    (risen x c.args.path.now marks c.args.progress.depth last o rest (omega (arith, some)) (ap (λ (s : PathStep). s.taken) (sym step) ∙ c.if-step.true) b))

pub returns-clause-stands : goal.returns-clause-stands
returns-clause-stands c x rest b =
    let o = c.args.progress.so_far in
    let depth = c.args.progress.depth in
    let last = c.args.progress.depth - 1 in
    let path = c.args.path.now in
    let marks = c.args.assignment.now.marks.items in
    let some = c.requires.step.some in
    let inside = c.requires.inside in
    let step = c.step_in-step.ensures in
    subst (λ ms. IsBefore x (slice_set path last (step_to_one c.step_in-step.result)) ms depth o rest) (sym c.set_mark-2.ensures.marks)
    (subst (λ (s : PathStep). IsBefore x (slice_set path last (step_to_one s)) (marked marks s.var One o) depth o rest) (sym step)
    (turned x path marks depth last o rest (omega (arith, some)) (omega (arith, some, inside)) (ap (λ (s : PathStep). s.taken) (sym step) ∙ c.if-step.false) b))
