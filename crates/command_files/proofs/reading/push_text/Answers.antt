use Rattle.std.proofs.Common.{◌++◌, ◌∷◌, [], sym, ap, subst, ◌∙◌}
use Rattle.command_language.specs.Command.{plain_named}
use Rattle.command_files.specs.Reading.{contents, HoldsAll}
use Rattle.command_files.proofs.Readings.{holds_more, contents_more}
use Rattle.command_files.proofs.reading.push_text.Goals as goal

pub returns-clause-ok : goal.returns-clause-ok
returns-clause-ok g c names held =
    let shelf = g.S.Shelf.view c.args.shelf.now in
    let texts = c.args.texts.now.items in
    let text = c.in_ok-text.text in
    let more = holds_more shelf names (contents texts) (plain_named c.args.named.now) text.items held c.in_ok-text.ensures.ok.0 in
    subst (HoldsAll shelf (names ++ plain_named c.args.named.now ∷ [])) (sym (ap contents c.in_ok-push.ensures.items ∙ contents_more texts text)) more
