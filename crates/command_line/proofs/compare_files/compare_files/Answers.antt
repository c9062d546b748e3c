use Rattle.std.proofs.lemmas.Result.{err_from_is_err_and}
use Rattle.elf_reader.specs.File.{plain_view, segments_of}
use Rattle.board_config.specs.Board.{mapped_ranges}
use Rattle.flat_machine.specs.Start as flat_start
use Rattle.object_machine.specs.Program.{program_of}
use Rattle.object_machine.specs.Start.{start_of}
use Rattle.loaded_file.proofs.WordLemmas.{same_view}
use Rattle.relinking.proofs.Analysed.{may_state}
use Rattle.command_line.proofs.Analysing.{compared_rejected}
use Rattle.command_line.proofs.ComparingFiles.{compared_files, has_ending, relinked_rejected, comparison_rejected, comparison_answered}
use Rattle.command_line.proofs.compare_files.compare_files.Goals as goal

pub returns-in_err-opened-clause-err : goal.returns-in_err-opened-clause-err
returns-in_err-opened-clause-err c =
    let p = err_from_is_err_and c.from_residual.result c.from_residual.ensures.1 in
    rw (p.1, p.2) (compared_rejected c.args.board.now c.args.file.now c.args.relinked.now c.args.input.now _ c.in_err-opened.ensures.err)

pub returns-in_err-view-clause-err : goal.returns-in_err-view-clause-err
returns-in_err-view-clause-err c =
    let p = err_from_is_err_and c.from_residual-in_err-view.result c.from_residual-in_err-view.ensures.1 in
    rw (p.1, p.2)
    (relinked_rejected c.args.board.now c.args.file.now c.args.relinked.now c.args.input.now c.in_ok-opened.opened.board c.in_ok-opened.ensures.ok.accepts _ c.in_err-view.ensures.fault)

pub compare-requires-clause-read : goal.compare-requires-clause-read
compare-requires-clause-read c =
    let o = c.in_ok-opened.opened in (may_state c.args.file.now o.board o.analysis c.in_ok-opened.ensures.ok.analysed).read

pub compare-requires-clause-graph : goal.compare-requires-clause-graph
compare-requires-clause-graph c =
    let o = c.in_ok-opened.opened in (may_state c.args.file.now o.board o.analysis c.in_ok-opened.ensures.ok.analysed).graph

pub compare-requires-clause-code : goal.compare-requires-clause-code
compare-requires-clause-code c =
    let o = c.in_ok-opened.opened in (may_state c.args.file.now o.board o.analysis c.in_ok-opened.ensures.ok.analysed).code

pub compare-requires-clause-lawful : goal.compare-requires-clause-lawful
compare-requires-clause-lawful c = c.in_ok-opened.ensures.ok.analysed.lawful

pub compare-requires-clause-entry : goal.compare-requires-clause-entry
compare-requires-clause-entry c =
    let o = c.in_ok-opened.opened in (may_state c.args.file.now o.board o.analysis c.in_ok-opened.ensures.ok.analysed).entry

pub answer-requires : goal.answer-requires
answer-requires c =
    let o = c.in_ok-opened.opened in
    let view = c.in_ok-view.view in
    let v = plain_view o.analysis.view in
    let p = program_of v o.board o.analysis.graph in
    has_ending p o.board o.board.steps (start_of v p o.analysis.graph c.args.input.now) (flat_start.start_of view.entry (segments_of view) (mapped_ranges o.board) c.args.input.now) c.in_ok-comparison.comparison c.in_ok-comparison.ensures

pub returns-in-Ok-clause-ok : goal.returns-in-Ok-clause-ok
returns-in-Ok-clause-ok c =
    let o = c.in_ok-opened.opened in
    let is = c.in_ok-opened.ensures.ok in
    let view = c.in_ok-view.view in
    comparison_answered c.args.board.now c.args.file.now c.args.relinked.now c.args.input.now o.board is.accepts c.in_ok-comparison.comparison _ c.in_ok-view.ensures.fault
    (compared_files c.args.board.now c.args.file.now c.args.relinked.now c.args.input.now o c.in_ok-comparison.comparison (plain_view view) is (same_view c.args.relinked.now view c.in_ok-view.ensures.file) c.in_ok-comparison.ensures)
    c.in-Ok.ensures.ok

pub returns-clause-err : goal.returns-clause-err
returns-clause-err c =
    let o = c.in_ok-opened.opened in
    let is = c.in_ok-opened.ensures.ok in
    let view = c.in_ok-view.view in
    comparison_rejected c.args.board.now c.args.file.now c.args.relinked.now c.args.input.now o.board is.accepts c.in_ok-comparison.comparison _ c.in_ok-view.ensures.fault
    (compared_files c.args.board.now c.args.file.now c.args.relinked.now c.args.input.now o c.in_ok-comparison.comparison (plain_view view) is (same_view c.args.relinked.now view c.in_ok-view.ensures.file) c.in_ok-comparison.ensures)
    c.in-Err.ensures.err
