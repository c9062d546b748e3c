use Rattle.std.proofs.Common.{List, ap, ◌++◌, sym, subst, ◌∙◌}
use Rattle.std.specs.Vec.Iter.{into_iter_items}
use Rattle.command_files.specs.Writing.{FailsToWrite}
use Rattle.command_files.specs.declared.writing.Output.{Output}
use Rattle.command_files.proofs.Writings.{sets_more, fails_behind, taken_front}
use Rattle.command_files.proofs.writing.write_all.Goals as goal

pub loop-output-preserved : goal.loop-output-preserved
loop-output-preserved g c =
    sets_more c.loop-output.yielded c.in-Some.output (g.S.Shelf.view c.args.shelf.now) (g.S.Shelf.view c.loop-output.shelf) (g.S.Shelf.view c.write_one.new.shelf)
    c.loop-output.invariant c.in-Ok.ensures.ok

pub returns-in-Err-clause-err : goal.returns-in-Err-clause-err
returns-in-Err-clause-err g c =
    let front = taken_front c.into_iter-output-iterator.result c.loop-output.yielded c.loop-output.output-iterator c.loop-output.yielded_by in
    let items = sym c.into_iter-output-iterator.ensures.into_iter_gives.0 ∙ front ∙ ap (λ rest. c.loop-output.yielded ++ rest) c.in-Some.ensures.steps.0 in
    subst (λ (os : List Output). FailsToWrite os (g.S.Shelf.view c.args.shelf.now) (g.S.Shelf.view c.write_one.new.shelf) c.in-Err.diagnostic) (sym items)
    (fails_behind c.loop-output.yielded c.in-Some.output (into_iter_items c.next.new.self) _ (g.S.Shelf.view c.loop-output.shelf) _ c.in-Err.diagnostic c.loop-output.invariant c.in-Err.ensures.err)
