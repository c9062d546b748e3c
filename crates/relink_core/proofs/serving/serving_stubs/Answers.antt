use Rattle.std.proofs.Common.{◌∙◌, ℕ, List, map, sym, subst}
use Rattle.std.specs.List.{All}
use Rattle.patch_code.specs.StubPlans.{serving_stub}
use Rattle.relink_core.specs.declared.serving_plan.ServingPlan.{ServingPlan}
use Rattle.relink_core.specs.StubBlocks.{NeedsStub}
use Rattle.relink_core.specs.Serving.{AreStubsFrom}
use Rattle.relink_core.proofs.ServingMade.{blocks_same}
use Rattle.relink_core.proofs.StubsInOrder.{all_needed}
use Rattle.relink_core.proofs.serving.serving_stubs.Goals as goal

pub stubs_from-requires-clause-blocks : goal.stubs_from-requires-clause-blocks
stubs_from-requires-clause-blocks c =
    let w : ServingPlan = record { source = c.args.source; regions = c.args.regions; copies = c.args.copies; numbers = c.in_ok-copy_numbers.field-0 } in
    subst (λ (bs : List ℕ). All (NeedsStub w) bs) (sym (c.deref.ensures.value ∙ c.in_ok-blocks.ensures)) (all_needed w)

pub returns-in-Ok : goal.returns-in-Ok
returns-in-Ok c = λ pl placed.
    let s = c.args.source.now in
    subst (λ (bs : List ℕ). AreStubsFrom s.code.now s.graph.now pl c.args.first bs (map serving_stub c.in-Ok.stubs.items))
    (c.deref.ensures.value ∙ c.in_ok-blocks.ensures ∙ blocks_same s c.args.regions.now c.args.copies.now pl placed) (c.in-Ok.ensures pl placed)
