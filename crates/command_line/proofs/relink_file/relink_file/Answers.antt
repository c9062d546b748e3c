use Rattle.std.proofs.Common.{subst}
use Rattle.std.proofs.lemmas.Result.{err_from_is_err_and}
use Rattle.elf_reader.specs.File.{PlainView}
use Rattle.placement_programme.specs.Views.{plain_programme, plain_choice}
use Rattle.relinking.specs.FoundChoice.{is_optimal}
use Rattle.relinking.specs.Report.{IsRelinkReport}
use Rattle.energy_model.specs.Scenes.{scene_of}
use Rattle.relinking.proofs.Analysed.{findings}
use Rattle.relinking.proofs.Energies.{within_base}
use Rattle.command_line.proofs.Analysing.{opened_view, profiled_rejected}
use Rattle.command_line.proofs.Profiling.{counts_rejected, ends_in_file}
use Rattle.printed_lines.specs.Texts.{text_of}
use Rattle.command_line.proofs.relink_file.relink_file.Goals as goal

pub returns-in_err-opened-clause-err : goal.returns-in_err-opened-clause-err
returns-in_err-opened-clause-err g c =
    let p = err_from_is_err_and c.from_residual.result c.from_residual.ensures.1 in
    rw (p.1, p.2) (profiled_rejected c.args.board.now c.args.file.now c.args.input.now _ c.in_err-opened.ensures.err)

pub relink_analysed-requires : goal.relink_analysed-requires
relink_analysed-requires g c = (c.args.file.now, c.in_ok-opened.ensures.ok.analysed)

pub returns-in_err-made-clause-err : goal.returns-in_err-made-clause-err
returns-in_err-made-clause-err g c =
    let p = err_from_is_err_and c.from_residual-in_err-made.result c.from_residual-in_err-made.ensures.1 in
    rw (p.1, p.2) (counts_rejected c.args.board.now c.args.file.now c.args.input.now c.in_ok-opened.opened _ c.in_ok-opened.ensures.ok c.in_err-made.ensures.err)

pub relink_report-requires-clause-made : goal.relink_report-requires-clause-made
relink_report-requires-clause-made g c =
    let is = c.in_ok-opened.ensures.ok in (c.args.file.now, is.analysed, (c.in_ok-made.ensures.ok c.args.file.now is.analysed).made)

pub relink_report-requires-clause-within : goal.relink_report-requires-clause-within
relink_report-requires-clause-within g c =
    let o = c.in_ok-opened.opened in
    let is = c.in_ok-opened.ensures.ok in
    let states = (c.in_ok-made.ensures.ok c.args.file.now is.analysed).states in
    within_base (scene_of o.analysis.graph o.analysis.code o.analysis.regions o.board) states.transitions (plain_programme c.in_ok-made.made.relinked.programme) states.energies

pub returns-clause-ok : goal.returns-clause-ok
returns-clause-ok g c =
    let file = c.args.file.now in
    let o = c.in_ok-opened.opened in
    let is = c.in_ok-opened.ensures.ok in
    let a = o.analysis in
    let by = c.in_ok-made.ensures.ok file is.analysed in
    let relinked = c.in_ok-made.made.relinked in
    let p = plain_programme relinked.programme in
    let choice = plain_choice relinked.found.choice in
    let parts = c.relinked_file.ensures in
    rw (parts.certificate, parts.file, parts.report) record {
      board = o.board;
      accepts = is.accepts;
      programme = p;
      states = record { found = findings file o.board a is.analysed; states = by.states };
      choice = choice;
      says_optimal = is_optimal relinked.found.status;
      result = by.made.result;
      is_report = subst (λ (v : PlainView). IsRelinkReport v o.board a.graph a.code p choice (is_optimal relinked.found.status) (text_of c.in_ok-report.report))
          (opened_view c.args.board.now file o is) c.in_ok-report.ensures;
    }

pub returns-clause-end : goal.returns-clause-end
returns-clause-end g c =
    let o = c.in_ok-opened.opened in
    let is = c.in_ok-opened.ensures.ok in
    let end = c.in_ok-made.made.end in
    (end, (c.relinked_file.ensures.end, ends_in_file c.args.file.now c.args.board.now c.args.input.now o end is (c.in_ok-made.ensures.ok c.args.file.now is.analysed).ended))
