use Rattle.std.proofs.Common.{List, map, ap, refl, subst, ◌∙◌}
use Rattle.command_language.specs.Command.{Named, plain_named}
use Rattle.command_line.specs.Performing.{list_fails, read_fails}
use Rattle.command_files.specs.Reading.{contents, HoldsAll, RejectsReads}
use Rattle.command_line.proofs.reading.read_listed.Goals as goal

pub returns-in-Ok-read_all-clause-ok : goal.returns-in-Ok-read_all-clause-ok
returns-in-Ok-read_all-clause-ok g c =
    let old = g.S.Shelf.view c.args.shelf.now in
    let names = ap (map plain_named) c.deref.ensures.value ∙ c.in-Ok.ensures.ok in
    (subst (λ (ns : List Named). HoldsAll old ns (contents c.read_all.new.texts.items)) names c.in-Ok-read_all.ensures.ok.0, c.in-Ok-read_all.ensures.ok.1)

pub returns-in-Ok-clause-err : goal.returns-in-Ok-clause-err
returns-in-Ok-clause-err g c =
    let names = ap (map plain_named) c.deref.ensures.value ∙ c.in-Ok.ensures.ok in
    read_fails (subst (λ (ns : List Named). RejectsReads ns (g.S.Shelf.view c.args.shelf.now) (g.S.Shelf.view c.read_all.new.shelf) c.in-Err-read_all.fault) names c.in-Err-read_all.ensures.err)

pub returns-clause-err : goal.returns-clause-err
returns-clause-err g c = list_fails c.in-Err.ensures.err refl
