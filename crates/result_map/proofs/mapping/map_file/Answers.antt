use Rattle.std.proofs.lemmas.Result.{err_from_is_err_and}
use Rattle.command_line.proofs.Analysing.{profiled_rejected}
use Rattle.command_line.proofs.Profiling.{counts_rejected}
use Rattle.command_line.proofs.Certificates.{run_rejected_first}
use Rattle.command_line.proofs.Paying.{check_rejected_first}
use Rattle.result_map.proofs.mapping.map_file.Goals as goal

pub returns-in_err-opened-clause-err : goal.returns-in_err-opened-clause-err
returns-in_err-opened-clause-err c =
    let p = err_from_is_err_and c.from_residual.result c.from_residual.ensures.1 in
    rw (p.1, p.2)
    (check_rejected_first c.args.board.now c.args.file.now c.args.input.now c.args.cert.now _
    (run_rejected_first c.args.board.now c.args.file.now c.args.input.now c.args.cert.now _
    (profiled_rejected c.args.board.now c.args.file.now c.args.input.now _ c.in_err-opened.ensures.err)))

pub programme_of_run-requires : goal.programme_of_run-requires
programme_of_run-requires c = (c.args.file.now, c.in_ok-opened.ensures.ok.analysed)

pub returns-in_err-measured-clause-err : goal.returns-in_err-measured-clause-err
returns-in_err-measured-clause-err c =
    let p = err_from_is_err_and c.from_residual-in_err-measured.result c.from_residual-in_err-measured.ensures.1 in
    rw (p.1, p.2)
    (check_rejected_first c.args.board.now c.args.file.now c.args.input.now c.args.cert.now _
    (run_rejected_first c.args.board.now c.args.file.now c.args.input.now c.args.cert.now _
    (counts_rejected c.args.board.now c.args.file.now c.args.input.now c.in_ok-opened.opened _ c.in_ok-opened.ensures.ok c.in_err-measured.ensures.err)))

pub choice_map-requires-clause-opened : goal.choice_map-requires-clause-opened
choice_map-requires-clause-opened c = (c.args.board.now, (c.args.file.now, c.in_ok-opened.ensures.ok))

pub returns-in-Ok-clause-ok : goal.returns-in-Ok-clause-ok
returns-in-Ok-clause-ok c = c.in-Ok.ensures.ok c.args.board.now c.args.file.now c.in_ok-opened.ensures.ok

pub returns-clause-err : goal.returns-clause-err
returns-clause-err c = c.in-Err.ensures.err c.args.board.now c.args.file.now c.in_ok-opened.ensures.ok
