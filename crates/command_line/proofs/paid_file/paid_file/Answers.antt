use Rattle.std.proofs.lemmas.Result.{err_from_is_err_and}
use Rattle.command_line.proofs.Analysing.{profiled_rejected}
use Rattle.command_line.proofs.Profiling.{counts_rejected, measures_to}
use Rattle.command_line.proofs.Certificates.{run_rejected_first}
use Rattle.command_line.proofs.Paying.{check_rejected_first}
use Rattle.command_line.proofs.paid_file.paid_file.Goals as goal

pub returns-in_err-opened-clause-err : goal.returns-in_err-opened-clause-err
returns-in_err-opened-clause-err g c =
    let p = err_from_is_err_and c.from_residual.result c.from_residual.ensures.1 in
    rw (p.1, p.2)
    (check_rejected_first c.args.board.now c.args.file.now c.args.input.now c.args.cert.now _
    (run_rejected_first c.args.board.now c.args.file.now c.args.input.now c.args.cert.now _
    (profiled_rejected c.args.board.now c.args.file.now c.args.input.now _ c.in_err-opened.ensures.err)))

pub programme_of_run-requires : goal.programme_of_run-requires
programme_of_run-requires g c = (c.args.file.now, c.in_ok-opened.ensures.ok.analysed)

pub returns-in_err-measured-clause-err : goal.returns-in_err-measured-clause-err
returns-in_err-measured-clause-err g c =
    let p = err_from_is_err_and c.from_residual-in_err-measured.result c.from_residual-in_err-measured.ensures.1 in
    rw (p.1, p.2)
    (check_rejected_first c.args.board.now c.args.file.now c.args.input.now c.args.cert.now _
    (run_rejected_first c.args.board.now c.args.file.now c.args.input.now c.args.cert.now _
    (counts_rejected c.args.board.now c.args.file.now c.args.input.now c.in_ok-opened.opened _ c.in_ok-opened.ensures.ok c.in_err-measured.ensures.err)))

pub choice_lines-requires-clause-opened : goal.choice_lines-requires-clause-opened
choice_lines-requires-clause-opened g c = (c.args.board.now, (c.args.file.now, c.in_ok-opened.ensures.ok))

pub returns-in-Ok-clause-ok : goal.returns-in-Ok-clause-ok
returns-in-Ok-clause-ok g c =
    rw (c.plain-text.ensures, c.into_bytes.ensures.value) (c.in-Ok.ensures.ok c.args.board.now c.args.file.now c.in_ok-opened.ensures.ok)

pub returns-in-Ok-clause-end : goal.returns-in-Ok-clause-end
returns-in-Ok-clause-end g c =
    measures_to c.args.file.now c.args.board.now c.args.input.now c.in_ok-opened.opened c.in_ok-measured.measured.end c.in_ok-opened.ensures.ok c.in_ok-measured.ensures.end

pub returns-clause-err : goal.returns-clause-err
returns-clause-err g c = c.in-Err.ensures.err c.args.board.now c.args.file.now c.in_ok-opened.ensures.ok
