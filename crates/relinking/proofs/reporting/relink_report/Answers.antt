use Rattle.std.proofs.Common.{◌∙◌, Bool, List, ◌++◌, sym, ap, subst}
use Rattle.std.specs.Prelude.{string_bytes}
use Rattle.std.specs.List.{All}
use Rattle.elf_reader.specs.File.{plain_view}
use Rattle.placement_programme.specs.Views.{plain_programme, plain_choice}
use Rattle.result_laws.proofs.LayingOut.{choice_lays_out}
use Rattle.printed_lines.specs.ReportText.{IsReport}
use Rattle.printed_lines.specs.TakenLines.{taken_lines, IsListed}
use Rattle.printed_lines.specs.declared.taken.TakenItem.{TakenItem}
use Rattle.relinking.proofs.ItemsTold.{all_listed, all_told}
use Rattle.printed_lines.specs.Texts.{text_of}
use Rattle.relinking.proofs.reporting.relink_report.Goals as goal

pub choice_report-requires-clause-feasible : goal.choice_report-requires-clause-feasible
choice_report-requires-clause-feasible c = let (file, is, made) = c.requires.made in made.result.found.feasible

pub taken_items-requires : goal.taken_items-requires
taken_items-requires c =
    let (file, is, made) = c.requires.made in
    let board = c.args.board.now in
    let a = c.args.analysis.now in
    let r = c.args.relinked.now in
    let p = plain_programme r.programme in
    let choice = plain_choice r.found.choice in
    record {
      stands = made.stands;
      can = choice_lays_out board a.graph a.code a.regions a.pieces.items p choice is.graph.grain made.chosen;
      copied = all_told board a.graph a.code a.regions p choice r.result.names.items r.result.copies.items r.result.places made.stands;
    }

pub push_taken_lines-requires : goal.push_taken_lines-requires
push_taken_lines-requires c =
    let (file, is, made) = c.requires.made in
    let a = c.args.analysis.now in
    let r = c.args.relinked.now in
    subst (All (IsListed a.graph.objects.items)) (sym (c.deref.ensures.value ∙ c.in_ok-items.ensures))
    (all_listed c.args.board.now a.graph a.code a.regions (plain_programme r.programme) (plain_choice r.found.choice) r.result.names.items r.result.copies.items r.result.places made.stands)

pub returns : goal.returns
returns c =
    let a = c.args.analysis.now in
    let board = c.args.board.now in
    let v = plain_view a.view in
    let r = c.args.relinked.now in
    let p = plain_programme r.programme in
    let choice = plain_choice r.found.choice in
    let first = text_of c.plain-report.result in
    record {
      first = first;
      is_first = rw (c.plain-report.ensures, c.into_bytes.ensures.value) (subst (λ (b : Bool). IsReport p board.nodes choice b (string_bytes c.in_ok-first.first)) c.is_optimal-optimal.ensures c.in_ok-first.ensures);
      report_is = c.in_ok-push_taken_lines.ensures
          ∙ ap (λ (items : List TakenItem). first ++ taken_lines v a.graph.objects.items items) (c.deref.ensures.value ∙ c.in_ok-items.ensures);
    }
