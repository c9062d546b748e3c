use Rattle.std.proofs.Common.{map, subst}
use Rattle.std.proofs.lemmas.Result.{err_from_is_err_and}
use Rattle.elf_reader.specs.File.{PlainView}
use Rattle.placement_programme.specs.Views.{plain_programme, plain_choice}
use Rattle.relinking.specs.MixOfRuns.{plain_input}
use Rattle.energy_model.specs.Scenes.{scene_of}
use Rattle.relinking.specs.FoundChoice.{is_optimal}
use Rattle.relinking.specs.Report.{IsRelinkReport}
use Rattle.relinking.proofs.Analysed.{findings}
use Rattle.command_line.proofs.Analysing.{opened_view}
use Rattle.relinking.proofs.Energies.{mixed_within}
use Rattle.command_line.proofs.MixedRuns.{analysed_rejected, runs_rejected}
use Rattle.printed_lines.specs.Texts.{text_of}
use Rattle.command_line.proofs.mix_file.mix_file.Goals as goal

pub returns-in_err-opened-clause-err : goal.returns-in_err-opened-clause-err
returns-in_err-opened-clause-err g c =
    let p = err_from_is_err_and c.from_residual.result c.from_residual.ensures.1 in
    rw (p.1, p.2) (analysed_rejected c.args.board.now c.args.file.now (map plain_input c.args.inputs.now) _ c.in_err-opened.ensures.err)

pub relink_runs-requires-clause-analysis : goal.relink_runs-requires-clause-analysis
relink_runs-requires-clause-analysis g c = (c.args.file.now, c.in_ok-opened.ensures.ok.analysed)

pub returns-in_err-relinked-clause-err : goal.returns-in_err-relinked-clause-err
returns-in_err-relinked-clause-err g c =
    let p = err_from_is_err_and c.from_residual-in_err-relinked.result c.from_residual-in_err-relinked.ensures.1 in
    rw (p.1, p.2)
    (runs_rejected c.args.board.now c.args.file.now (map plain_input c.args.inputs.now) c.in_ok-opened.opened _ c.in_ok-opened.ensures.ok c.in_err-relinked.ensures.err)

pub relink_report-requires-clause-made : goal.relink_report-requires-clause-made
relink_report-requires-clause-made g c =
    let is = c.in_ok-opened.ensures.ok in (c.args.file.now, is.analysed, (c.in_ok-relinked.ensures.ok c.args.file.now is.analysed).made)

pub relink_report-requires-clause-within : goal.relink_report-requires-clause-within
relink_report-requires-clause-within g c =
    let o = c.in_ok-opened.opened in
    let states = (c.in_ok-relinked.ensures.ok c.args.file.now c.in_ok-opened.ensures.ok.analysed).states in
    mixed_within (scene_of o.analysis.graph o.analysis.code o.analysis.regions o.board) states.runs (plain_programme c.in_ok-relinked.relinked.programme) states.energies

pub returns-clause-ok : goal.returns-clause-ok
returns-clause-ok g c =
    let file = c.args.file.now in
    let o = c.in_ok-opened.opened in
    let is = c.in_ok-opened.ensures.ok in
    let a = o.analysis in
    let relinked = c.in_ok-relinked.relinked in
    let made = c.in_ok-relinked.ensures.ok file is.analysed in
    let p = plain_programme relinked.programme in
    let choice = plain_choice relinked.found.choice in
    let parts = c.relinked_file.ensures in
    rw (parts.certificate, parts.file, parts.report) record {
      board = o.board;
      accepts = is.accepts;
      programme = p;
      states = record { found = findings file o.board a is.analysed; states = made.states };
      choice = choice;
      says_optimal = is_optimal relinked.found.status;
      result = made.made.result;
      is_report = subst (λ (v : PlainView). IsRelinkReport v o.board a.graph a.code p choice (is_optimal relinked.found.status) (text_of c.in_ok-report.report))
          (opened_view c.args.board.now file o is) c.in_ok-report.ensures;
    }
