use Rattle.std.proofs.Common.{List, sym, subst}
use Rattle.relink_core.specs.declared.placed_copy.PlacedCopy.{PlacedCopy}
use Rattle.relink_core.specs.ResultParts.{AreCopiesOf, HaveCopies, HaveRoom, ServeCopies, IsPlanWith}
use Rattle.relink_core.proofs.StubRoom.{have_room}
use Rattle.relink_core.proofs.chosen_results.planned_result.Goals as goal

pub placed_stubs-requires-clause-copies : goal.placed_stubs-requires-clause-copies
placed_stubs-requires-clause-copies c =
    let (file, t, p, choice, is) = c.requires in
    subst (HaveCopies c.args.parts.now) (sym c.deref.ensures.value) (file, t, p, choice, is, c.in_ok-copies.ensures.are file t p choice is)

pub placed_stubs-requires-clause-room : goal.placed_stubs-requires-clause-room
placed_stubs-requires-clause-room c =
    let (file, t, p, choice, is) = c.requires in
    subst (HaveRoom c.args.parts.now) (sym c.deref.ensures.value)
    (have_room file t p choice c.args.parts.now c.in_ok-copies.copies.items is (c.in_ok-copies.ensures.are file t p choice is))

pub placed_plan-requires-clause-copies : goal.placed_plan-requires-clause-copies
placed_plan-requires-clause-copies c =
    let (file, t, p, choice, is) = c.requires in
    subst (HaveCopies c.args.parts.now) (sym c.deref-2.ensures.value) (file, t, p, choice, is, c.in_ok-copies.ensures.are file t p choice is)

pub placed_plan-requires-clause-stubs : goal.placed_plan-requires-clause-stubs
placed_plan-requires-clause-stubs c =
    subst (λ (xs : List PlacedCopy). ServeCopies c.args.parts.now xs c.in_ok-stubs.stubs.items) (sym c.deref-2.ensures.value)
    (subst (λ (xs : List PlacedCopy). ServeCopies c.args.parts.now xs c.in_ok-stubs.stubs.items) c.deref.ensures.value c.in_ok-stubs.ensures)

pub returns-in-Ok-clause-planned : goal.returns-in-Ok-clause-planned
returns-in-Ok-clause-planned c = λ file t p choice is.
    let are = c.in_ok-copies.ensures.are file t p choice is in
    let there = subst (AreCopiesOf p choice c.args.parts.now) (sym c.deref-2.ensures.value) are in
    record {
      copies = are;
      plan = subst (λ (xs : List PlacedCopy). IsPlanWith file t p choice c.args.parts.now xs c.in-Ok.plan) c.deref-2.ensures.value (c.in-Ok.ensures file t p choice is there);
    }
