use Rattle.std.proofs.Common.{◌∙◌, ℕ, map, ap, subst}
use Rattle.patch_code.specs.StubPlans.{serving_stub}
use Rattle.relink_core.specs.Serving.{served_blocks, AreStubsFrom}
use Rattle.relink_core.specs.ResultParts.{stubs_at}
use Rattle.relink_core.proofs.SourceFacts.{source_is, borders_entered}
use Rattle.relink_core.proofs.chosen_results.placed_stubs.Goals as goal

pub serving_stubs-requires-clause-source : goal.serving_stubs-requires-clause-source
serving_stubs-requires-clause-source c =
    let (file, t, p, choice, is, are) = c.requires.copies in
    let parts = c.args.parts.now in
    source_is file parts.board.now parts.view.now parts.source.now parts.regions.now t p choice parts.taken.now is

pub serving_stubs-requires-clause-borders : goal.serving_stubs-requires-clause-borders
serving_stubs-requires-clause-borders c =
    let (file, t, p, choice, is, are) = c.requires.copies in
    let parts = c.args.parts.now in
    borders_entered file parts.board.now parts.view.now parts.source.now parts.regions.now t p choice parts.taken.now is

pub returns-in-Ok : goal.returns-in-Ok
returns-in-Ok c = λ pl with.
    let s = c.args.parts.now.source.now in
    subst (λ (n : ℕ). AreStubsFrom s.code.now s.graph.now pl n (served_blocks s.code.now pl) (map serving_stub c.in-Ok.stubs.items))
    (c.first_stub-first.ensures ∙ ap (stubs_at c.args.parts.now.board.now) c.deref.ensures.value) (c.in-Ok.ensures pl with)
