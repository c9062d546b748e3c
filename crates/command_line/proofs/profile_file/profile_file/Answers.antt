use Rattle.std.proofs.lemmas.Result.{err_from_is_err_and}
use Rattle.elf_reader.specs.File.{plain_view}
use Rattle.command_line.proofs.Analysing.{profiled_rejected}
use Rattle.command_line.proofs.Profiling.{counts_rejected, has_lines, profiles_to, measures_to}
use Rattle.command_line.proofs.profile_file.profile_file.Goals as goal

pub returns-in_err-opened-clause-err : goal.returns-in_err-opened-clause-err
returns-in_err-opened-clause-err g c =
    let p = err_from_is_err_and c.from_residual.result c.from_residual.ensures.1 in
    rw (p.1, p.2) (profiled_rejected c.args.board.now c.args.file.now c.args.input.now _ c.in_err-opened.ensures.err)

pub measured_run-requires : goal.measured_run-requires
measured_run-requires g c = (c.args.file.now, c.in_ok-opened.ensures.ok.analysed)

pub returns-in_err-measured-clause-err : goal.returns-in_err-measured-clause-err
returns-in_err-measured-clause-err g c =
    let p = err_from_is_err_and c.from_residual-in_err-measured.result c.from_residual-in_err-measured.ensures.1 in
    rw (p.1, p.2) (counts_rejected c.args.board.now c.args.file.now c.args.input.now c.in_ok-opened.opened _ c.in_ok-opened.ensures.ok c.in_err-measured.ensures.err)

pub profile_lines-requires-clause-ending : goal.profile_lines-requires-clause-ending
profile_lines-requires-clause-ending g c =
    let o = c.in_ok-opened.opened in
    (has_lines (plain_view o.analysis.view) o.board o.analysis.graph o.analysis.code o.analysis.regions c.args.input.now c.in_ok-measured.measured.profile c.in_ok-measured.ensures.ok).ending

pub profile_lines-requires-clause-blocks : goal.profile_lines-requires-clause-blocks
profile_lines-requires-clause-blocks g c =
    let o = c.in_ok-opened.opened in
    (has_lines (plain_view o.analysis.view) o.board o.analysis.graph o.analysis.code o.analysis.regions c.args.input.now c.in_ok-measured.measured.profile c.in_ok-measured.ensures.ok).blocks

pub profile_lines-requires-clause-reads : goal.profile_lines-requires-clause-reads
profile_lines-requires-clause-reads g c =
    let o = c.in_ok-opened.opened in
    (has_lines (plain_view o.analysis.view) o.board o.analysis.graph o.analysis.code o.analysis.regions c.args.input.now c.in_ok-measured.measured.profile c.in_ok-measured.ensures.ok).reads

pub profile_lines-requires-clause-writes : goal.profile_lines-requires-clause-writes
profile_lines-requires-clause-writes g c =
    let o = c.in_ok-opened.opened in
    (has_lines (plain_view o.analysis.view) o.board o.analysis.graph o.analysis.code o.analysis.regions c.args.input.now c.in_ok-measured.measured.profile c.in_ok-measured.ensures.ok).writes

pub returns-clause-ok : goal.returns-clause-ok
returns-clause-ok g c =
    profiles_to c.args.file.now c.args.board.now c.args.input.now _ c.in_ok-opened.opened c.in_ok-measured.measured.profile c.in_ok-opened.ensures.ok c.in_ok-measured.ensures.ok c.in_ok-text.ensures

pub returns-clause-end : goal.returns-clause-end
returns-clause-end g c =
    measures_to c.args.file.now c.args.board.now c.args.input.now c.in_ok-opened.opened c.in_ok-measured.measured.end c.in_ok-opened.ensures.ok c.in_ok-measured.ensures.end
