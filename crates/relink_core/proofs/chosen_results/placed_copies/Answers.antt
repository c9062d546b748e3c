use Rattle.std.proofs.Common.{◌∙◌}
use Rattle.relink_core.proofs.SourceFacts.{source_is, as_many, may_copy, copies_are, copies_whole, copies_copied}
use Rattle.relink_core.proofs.chosen_results.placed_copies.Goals as goal

pub copies-requires-clause-source : goal.copies-requires-clause-source
copies-requires-clause-source c =
    let (file, t, p, choice, is) = c.requires in
    let parts = c.args.parts.now in
    source_is file parts.board.now parts.view.now parts.source.now parts.regions.now t p choice parts.taken.now is

pub copies-requires-clause-many : goal.copies-requires-clause-many
copies-requires-clause-many c =
    let (file, t, p, choice, is) = c.requires in
    let parts = c.args.parts.now in
    as_many file parts.board.now parts.view.now parts.source.now parts.regions.now t p choice parts.taken.now is _ _ c.deref.ensures.value c.deref-2.ensures.value

pub copies-requires-clause-can : goal.copies-requires-clause-can
copies-requires-clause-can c =
    let (file, t, p, choice, is) = c.requires in
    let parts = c.args.parts.now in
    may_copy file parts.board.now parts.view.now parts.source.now parts.regions.now t p choice parts.taken.now is _ _ c.deref.ensures.value c.deref-2.ensures.value

pub returns-in-Ok-clause-are : goal.returns-in-Ok-clause-are
returns-in-Ok-clause-are c = λ file t p choice is.
    let parts = c.args.parts.now in
    copies_are file parts.board.now parts.view.now parts.source.now parts.regions.now t p choice parts.taken.now is _ _ c.in-Ok.copies.items c.deref.ensures.value c.deref-2.ensures.value c.in-Ok.ensures

pub returns-in-Ok-clause-ranges : goal.returns-in-Ok-clause-ranges
returns-in-Ok-clause-ranges c = c.in-Ok.ensures.blocks ∙ c.deref.ensures.value

pub returns-in-Ok-clause-places : goal.returns-in-Ok-clause-places
returns-in-Ok-clause-places c = c.in-Ok.ensures.stand ∙ c.deref-2.ensures.value

pub returns-in-Ok-clause-whole : goal.returns-in-Ok-clause-whole
returns-in-Ok-clause-whole c = copies_whole c.args.parts.now.source.now c.in-Ok.copies.items c.in-Ok.ensures.each

pub returns-in-Ok-clause-pieces : goal.returns-in-Ok-clause-pieces
returns-in-Ok-clause-pieces c = copies_copied c.args.parts.now.source.now c.in-Ok.copies.items c.in-Ok.ensures.each
