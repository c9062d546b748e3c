use Rattle.std.proofs.lemmas.Result.{err_from_is_err_and}
use Rattle.placement_programme.specs.Views.{plain_programme}
use Rattle.energy_model.specs.Scenes.{scene_of}
use Rattle.relinking.proofs.Energies.{within_base}
use Rattle.command_line.proofs.Analysing.{profiled_rejected}
use Rattle.command_line.proofs.Profiling.{counts_rejected, measures_to}
use Rattle.command_line.proofs.Certificates.{run_rejected_first, certificate_told, states_of}
use Rattle.command_line.proofs.check_file.check_file.Goals as goal

pub returns-in_err-opened-clause-err : goal.returns-in_err-opened-clause-err
returns-in_err-opened-clause-err g c =
    let p = err_from_is_err_and c.from_residual.result c.from_residual.ensures.1 in
    rw (p.1, p.2)
    (run_rejected_first c.args.board.now c.args.file.now c.args.input.now c.args.cert.now _
    (profiled_rejected c.args.board.now c.args.file.now c.args.input.now _ c.in_err-opened.ensures.err))

pub programme_of_run-requires : goal.programme_of_run-requires
programme_of_run-requires g c = (c.args.file.now, c.in_ok-opened.ensures.ok.analysed)

pub returns-in_err-measured-clause-err : goal.returns-in_err-measured-clause-err
returns-in_err-measured-clause-err g c =
    let p = err_from_is_err_and c.from_residual-in_err-measured.result c.from_residual-in_err-measured.ensures.1 in
    rw (p.1, p.2)
    (run_rejected_first c.args.board.now c.args.file.now c.args.input.now c.args.cert.now _
    (counts_rejected c.args.board.now c.args.file.now c.args.input.now c.in_ok-opened.opened _ c.in_ok-opened.ensures.ok c.in_err-measured.ensures.err))

pub checked-requires : goal.checked-requires
checked-requires g c =
    let o = c.in_ok-opened.opened in
    let states = c.in_ok-measured.ensures.ok.states in
    record { within = within_base (scene_of o.analysis.graph o.analysis.code o.analysis.regions o.board) states.transitions (plain_programme c.in_ok-measured.measured.programme) states.energies }

pub returns-in-Ok-clause-ok : goal.returns-in-Ok-clause-ok
returns-in-Ok-clause-ok g c =
    let o = c.in_ok-opened.opened in
    let is = c.in_ok-opened.ensures.ok in
    let programme = plain_programme c.in_ok-measured.measured.programme in
    record {
      board = o.board;
      accepts = is.accepts;
      programme = programme;
      states = states_of c.args.board.now c.args.file.now c.args.input.now o programme is c.in_ok-measured.ensures.ok.states;
      reports = c.in-Ok.ensures.ok;
    }

pub returns-in-Ok-clause-end : goal.returns-in-Ok-clause-end
returns-in-Ok-clause-end g c =
    measures_to c.args.file.now c.args.board.now c.args.input.now c.in_ok-opened.opened c.in_ok-measured.measured.end c.in_ok-opened.ensures.ok c.in_ok-measured.ensures.end

pub returns-clause-err : goal.returns-clause-err
returns-clause-err g c =
    let o = c.in_ok-opened.opened in
    let is = c.in_ok-opened.ensures.ok in
    let programme = plain_programme c.in_ok-measured.measured.programme in
    certificate_told c.args.board.now c.args.file.now c.args.input.now c.args.cert.now o.board programme _ is.accepts
    (states_of c.args.board.now c.args.file.now c.args.input.now o programme is c.in_ok-measured.ensures.ok.states)
    c.in-Err.ensures.err
