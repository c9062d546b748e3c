use Rattle.std.proofs.Common.{◌∙◌, ℕ, sym, ap, subst}
use Rattle.placement_programme.specs.Views.{plain_programme, plain_choice}
use Rattle.relocator.specs.Laws.{CanLayOut}
use Rattle.relocator.specs.Placing.{chosen_slots, ArePlaces}
use Rattle.result_laws.proofs.LayingOut.{choice_lays_out}
use Rattle.relink_core.specs.Names.{objects_named, ranges_named}
use Rattle.relink_core.proofs.NameLemmas.{names_are}
use Rattle.relink_core.proofs.choosing.taken_names.Goals as goal

pub layout-requires-clause-choice : goal.layout-requires-clause-choice
layout-requires-clause-choice c =
    let (file, is) = c.requires.analysis in
    let a = c.args.a.now in
    let board = c.args.board.now in
    let p = plain_programme c.args.p.now in
    let choice = plain_choice c.args.c.now in
    subst (λ (n : ℕ). CanLayOut a.graph n board p choice) (sym c.region_count.ensures)
    (choice_lays_out board a.graph a.code a.regions a.pieces.items p choice is.graph.grain c.requires.choice)

pub returns-in-Ok : goal.returns-in-Ok
returns-in-Ok c =
    let a = c.args.a.now in
    let board = c.args.board.now in
    let p = plain_programme c.args.p.now in
    let choice = plain_choice c.args.c.now in
    let named = c.in_ok-names.ensures ∙ sym (names_are board p choice) in
    record {
      chosen = c.requires.choice;
      named = record {
        names = named;
        objects = c.in_ok-objects.ensures ∙ ap objects_named (c.deref.ensures.value ∙ named);
        ranges = c.in_ok-ranges.ensures ∙ ap ranges_named (c.deref-2.ensures.value ∙ named);
      };
      laid = subst (λ (n : ℕ). ArePlaces a.graph n (chosen_slots board p choice) c.in-Ok.places) c.region_count.ensures c.in-Ok.ensures;
    }
