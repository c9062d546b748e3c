use Rattle.std.proofs.Common.{◌≡◌, ℕ, true, false, List, ap, subst, arith}
use Rattle.patch_code.specs.Start.{StartPlan}
use Rattle.patch_code.specs.Layout.{image_bytes}
use Rattle.relink_core.specs.declared.items.Phase.TheVariants.{Start}
use Rattle.relink_core.specs.Naming.{phase_entering}
use Rattle.relink_core.specs.Planning.{AreLists, lists_entering}
use Rattle.relink_core.proofs.Made.{images_summed}
use Rattle.relink_core.proofs.Planned.{bytes_fit, plan_made}
use Rattle.relink_core.proofs.plan.patch_plan.Goals as goal

pub images_at-requires-clause-small : goal.images_at-requires-clause-small
images_at-requires-clause-small c =
    let has = c.in_ok-plan.ensures in
    let fits = bytes_fit c.args.entry c.args.board.now c.args.items.now c.args.stubs.items c.deref.result.now c.in_ok-plan.plan has c.requires.chosen.0 c.requires.chosen.1 c.requires.can in
    let base : c.in_ok-plan.plan.base ≡ c.args.board.now.patch.base = ap (λ (s : StartPlan). s.base) has.start in
    let room = c.requires.room in
    omega (arith, fits, base, room)

pub image_places-requires : goal.image_places-requires
image_places-requires c =
    let has = c.in_ok-plan.ensures in
    let fits = bytes_fit c.args.entry c.args.board.now c.args.items.now c.args.stubs.items c.deref.result.now c.in_ok-plan.plan has c.requires.chosen.0 c.requires.chosen.1 c.requires.can in
    let base : c.in_ok-plan.plan.base ≡ c.args.board.now.patch.base = ap (λ (s : StartPlan). s.base) has.start in
    let room = c.requires.room in
    let first = c.images_at.ensures in
    let bytes = ap image_bytes has.words in
    let summed = images_summed c.args.items.now.copies.now in
    omega (arith, fits, base, room, first, bytes, summed)

pub returns : goal.returns
returns c = λ slots chosen.
    let has = c.in_ok-plan.ensures in
    let items = c.args.items.now in
    let places = c.in_ok-places.places.items in
    let start = subst (λ (ns : List ℕ). c.in_ok-plan-2.field-0.items ≡ phase_entering Start items ns) c.deref-2.ensures.value c.in_ok-plan-2.ensures in
    plan_made c.args.entry c.args.board.now items c.args.stubs.items c.deref.result.now places c.in_ok-plan.plan _ c.images_at.result slots c.requires.can has
    (record {
      start = λ t. record { base = (has.start t).base; entry = (has.start t).entry; fence_i = (has.start t).fence_i; jobs = start t };
      twins = has.twins;
      stubs_are = has.stubs_are;
      count = has.count;
      leave = has.leave;
      enter = subst (λ (ns : List ℕ). AreLists (lists_entering false items ns) items.regions c.in_ok-plan-3.field-0.items) c.deref-3.ensures.value c.in_ok-plan-3.ensures;
      kept_leave = has.kept_leave;
      kept_enter = subst (λ (ns : List ℕ). AreLists (lists_entering true items ns) items.regions c.in_ok-plan-4.field-0.items) c.deref-4.ensures.value c.in_ok-plan-4.ensures;
      words = has.words;
    })
    c.images_at.ensures c.in_ok-places.ensures.places chosen
