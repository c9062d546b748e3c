use Rattle.std.proofs.Common.{arith}
use Rattle.std.proofs.lemmas.Result.{err_from_is_err_and}
use Rattle.placement_programme.specs.Views.{plain_programme, plain_choice}
use Rattle.command_line.proofs.Certificates.{text_accepted, text_rejected, unspelled_rejected}
use Rattle.command_line.proofs.accepting.accepted_choice.Goals as goal

pub returns-in_err-verdict-clause-err : goal.returns-in_err-verdict-clause-err
returns-in_err-verdict-clause-err c =
    let p = err_from_is_err_and c.from_residual-in_err-verdict.result c.from_residual-in_err-verdict.ensures.1 in
    rw (p.1, p.2) (unspelled_rejected (plain_programme c.args.programme.now) c.args.cert.now _ c.in_err-verdict.ensures.answers)

pub returns-in-Ok-clause-ok : goal.returns-in-Ok-clause-ok
returns-in-Ok-clause-ok c =
    text_accepted (plain_programme c.args.programme.now) c.args.cert.now (plain_choice c.check_text.new.room.choice) (λ i. omega (arith, c.type_inv.cert i))
    c.in_ok-verdict.verdict c.in-Ok.optimal c.in_ok-verdict.ensures.answers c.in-Ok.ensures.ok

pub returns-in-Err-clause-err : goal.returns-in-Err-clause-err
returns-in-Err-clause-err c =
    text_rejected (plain_programme c.args.programme.now) c.args.cert.now (plain_choice c.check_text.new.room.choice) (λ i. omega (arith, c.type_inv.cert i))
    c.in_ok-verdict.verdict c.in-Err.fault c.in_ok-verdict.ensures.answers c.in-Err.ensures.err
