use Rattle.std.proofs.Common.{◌≡◌, ◌∙◌, List, length, sym, ap, subst}
use Rattle.elf_reader.specs.File.{plain_view}
use Rattle.loaded_file.specs.declared.reaches.Reach.{Reach}
use Rattle.loaded_file.specs.Reaches.{reaches_below, AreReaches}
use Rattle.loaded_file.proofs.ReachLemmas.{joined_reaches}
use Rattle.loaded_file.proofs.reaches.reaches.Goals as goal

pub returns-in-Ok : goal.returns-in-Ok
returns-in-Ok c =
    let v = plain_view c.args.view.now in
    let own = c.in_ok-own.own.items in
    let made : c.in-Ok.reaches.items ≡ reaches_below own (length own) = c.in-Ok.ensures ∙ ap (λ (rs : List Reach). reaches_below rs (length rs)) c.deref.ensures.value in
    subst (λ (rs : List Reach). AreReaches c.args.kind v rs) (sym made) (joined_reaches c.args.kind v own c.in_ok-own.ensures)
