use Rattle.std.proofs.Common.{refl, ap}
use Rattle.elf_reader.specs.File.{PlainView}
use Rattle.relocator.specs.Placing.{chosen_slots}
use Rattle.relink_core.proofs.PlanGoals.{ItemsAre, chosen_is, can_plan, room, plan_with}
use Rattle.relink_core.proofs.chosen_results.placed_plan.Goals as goal

pub patch_plan-requires-clause-can : goal.patch_plan-requires-clause-can
patch_plan-requires-clause-can c =
    let (file, t, p, choice, is, are) = c.requires.copies in
    can_plan file t p choice c.args.parts.now c.args.copies.now is are _
    (record { graph = refl; places = refl; names = c.deref.ensures.value; copies = refl; regions = refl })

pub patch_plan-requires-clause-chosen : goal.patch_plan-requires-clause-chosen
patch_plan-requires-clause-chosen c =
    let (file, t, p, choice, is, are) = c.requires.copies in (
      chosen_slots c.args.parts.now.board.now p choice,
      chosen_is file t p choice c.args.parts.now c.args.copies.now is are _
          (record { graph = refl; places = refl; names = c.deref.ensures.value; copies = refl; regions = refl }),
    )

pub patch_plan-requires-clause-room : goal.patch_plan-requires-clause-room
patch_plan-requires-clause-room c =
    let (file, t, p, choice, is, are) = c.requires.copies in
    room file t p choice c.args.parts.now c.args.copies.now is are _ _ c.args.stubs.items refl c.deref.ensures.value c.requires.stubs

pub returns-in-Ok : goal.returns-in-Ok
returns-in-Ok c = λ file t p choice is are.
    let same : ItemsAre file t p choice c.args.parts.now c.args.copies.now is are _ =
    record { graph = refl; places = refl; names = c.deref.ensures.value; copies = refl; regions = refl } in
    plan_with file t p choice c.args.parts.now c.args.copies.now is are _ same c.args.parts.now.view.now.entry c.args.stubs.items c.in-Ok.plan c.requires.stubs
    (ap (λ (v : PlainView). v.entry) is.same)
    (c.in-Ok.ensures (chosen_slots c.args.parts.now.board.now p choice) (chosen_is file t p choice c.args.parts.now c.args.copies.now is are _ same))
