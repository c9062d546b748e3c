use Rattle.std.proofs.Common.{map}
use Rattle.std.proofs.lemmas.Result.{err_from_is_err_and}
use Rattle.placement_programme.specs.Views.{plain_programme}
use Rattle.energy_model.specs.Scenes.{scene_of}
use Rattle.relinking.specs.MixOfRuns.{plain_input}
use Rattle.relinking.proofs.Energies.{mixed_within}
use Rattle.command_line.proofs.MixedRuns.{analysed_rejected, runs_rejected, checked_rejected, certificate_rejected, states_of_all}
use Rattle.command_line.proofs.check_mix_file.check_mix_file.Goals as goal

pub returns-in_err-opened-clause-err : goal.returns-in_err-opened-clause-err
returns-in_err-opened-clause-err g c =
    let inputs = map plain_input c.args.inputs.now in
    let p = err_from_is_err_and c.from_residual.result c.from_residual.ensures.1 in
    rw (p.1, p.2)
    (checked_rejected c.args.board.now c.args.file.now inputs c.args.cert.now _
    (analysed_rejected c.args.board.now c.args.file.now inputs _ c.in_err-opened.ensures.err))

pub programme_of_runs-requires-clause-analysis : goal.programme_of_runs-requires-clause-analysis
programme_of_runs-requires-clause-analysis g c = (c.args.file.now, c.in_ok-opened.ensures.ok.analysed)

pub returns-in_err-programme-clause-err : goal.returns-in_err-programme-clause-err
returns-in_err-programme-clause-err g c =
    let inputs = map plain_input c.args.inputs.now in
    let p = err_from_is_err_and c.from_residual-in_err-programme.result c.from_residual-in_err-programme.ensures.1 in
    rw (p.1, p.2)
    (checked_rejected c.args.board.now c.args.file.now inputs c.args.cert.now _
    (runs_rejected c.args.board.now c.args.file.now inputs c.in_ok-opened.opened _ c.in_ok-opened.ensures.ok c.in_err-programme.ensures.err))

pub checked-requires : goal.checked-requires
checked-requires g c =
    let o = c.in_ok-opened.opened in
    let states = c.in_ok-programme.ensures.ok in
    record { within = mixed_within (scene_of o.analysis.graph o.analysis.code o.analysis.regions o.board) states.runs (plain_programme c.in_ok-programme.programme) states.energies }

pub returns-in-Ok-clause-ok : goal.returns-in-Ok-clause-ok
returns-in-Ok-clause-ok g c =
    let o = c.in_ok-opened.opened in
    let is = c.in_ok-opened.ensures.ok in
    let programme = plain_programme c.in_ok-programme.programme in
    record {
      board = o.board;
      accepts = is.accepts;
      programme = programme;
      states = states_of_all c.args.board.now c.args.file.now (map plain_input c.args.inputs.now) o programme is c.in_ok-programme.ensures.ok;
      reports = c.in-Ok.ensures.ok;
    }

pub returns-clause-err : goal.returns-clause-err
returns-clause-err g c =
    let o = c.in_ok-opened.opened in
    let is = c.in_ok-opened.ensures.ok in
    let inputs = map plain_input c.args.inputs.now in
    let programme = plain_programme c.in_ok-programme.programme in
    certificate_rejected c.args.board.now c.args.file.now inputs c.args.cert.now o.board programme _ is.accepts
    (states_of_all c.args.board.now c.args.file.now inputs o programme is c.in_ok-programme.ensures.ok)
    c.in-Err.ensures.err
