use Rattle.std.proofs.Common.{sym, subst, arith}
use Rattle.patch_code.specs.Overlay.{CanServeFrom, switch_at}
use Rattle.patch_code.specs.StubPlans.{serving_stubs, overlay_plan}
use Rattle.patch_code.proofs.WholePlans.{stubs_can, stubs_fit}
use Rattle.patch_code.proofs.code.code_words.Goals as goal

pub all_stub_words-requires-clause-can : goal.all_stub_words-requires-clause-can
all_stub_words-requires-clause-can c =
    subst (λ x. CanServeFrom 2047 x c.args.first (serving_stubs c.args.ordered.now)) (sym c.requires.switch)
    (subst (λ y. CanServeFrom 2047 (switch_at (overlay_plan c.args.plan.now)) y (serving_stubs c.args.ordered.now)) (sym c.requires.first)
    (stubs_can (overlay_plan c.args.plan.now) (serving_stubs c.args.ordered.now) c.requires.by_home c.requires.can))

pub all_stub_words-requires-clause-fits : goal.all_stub_words-requires-clause-fits
all_stub_words-requires-clause-fits c =
    let first = c.requires.first in
    let fit = stubs_fit (overlay_plan c.args.plan.now) (serving_stubs c.args.ordered.now) c.requires.by_home c.requires.can in
    omega (arith, first, fit)
