use Rattle.std.proofs.Common.{string_bytes, arith}
use Rattle.placement_programme.specs.Views.{plain_programme, plain_choice}
use Rattle.command_line.proofs.Certificates.{accepted_feasible, certificate_told, states_of}
use Rattle.command_line.proofs.Paying.{pays_to, made_rejected, check_rejected_first, bytes_read}
use Rattle.command_line.proofs.paid_file.choice_lines.Goals as goal

pub made_lines-requires-clause-opened : goal.made_lines-requires-clause-opened
made_lines-requires-clause-opened c = (c.requires.opened.1.0, c.requires.opened.1.1.analysed)

pub made_lines-requires-clause-feasible : goal.made_lines-requires-clause-feasible
made_lines-requires-clause-feasible c =
    accepted_feasible (plain_programme c.args.measured.now.programme) c.args.cert.now c.in-Ok.accepted.optimal (plain_choice c.in-Ok.accepted.choice) c.in-Ok.ensures.ok

pub returns-in-Ok-made_lines-clause-ok : goal.returns-in-Ok-made_lines-clause-ok
returns-in-Ok-made_lines-clause-ok c board_text file is =
    pays_to c.results_pay.ensures board_text file c.args.input.now c.args.cert.now (string_bytes c.in-Ok-made_lines.lines) c.args.opened.now c.args.measured.now c.in-Ok.accepted.optimal (plain_choice c.in-Ok.accepted.choice)
    (bytes_read c.args.input.now (λ i. omega (arith, c.type_inv.input i))) is c.requires.counts c.in-Ok.ensures.ok (c.in-Ok-made_lines.ensures.ok file is.analysed)

pub returns-in-Ok-clause-err : goal.returns-in-Ok-clause-err
returns-in-Ok-clause-err c board_text file is =
    made_rejected board_text file c.args.input.now c.args.cert.now c.args.opened.now c.args.measured.now c.in-Ok.accepted.optimal (plain_choice c.in-Ok.accepted.choice) c.in-Err-made_lines.fault is c.requires.counts
    c.in-Ok.ensures.ok (c.in-Err-made_lines.ensures.err file is.analysed)

pub returns-clause-err : goal.returns-clause-err
returns-clause-err c board_text file is =
    check_rejected_first board_text file c.args.input.now c.args.cert.now c.in-Err.fault
    (certificate_told board_text file c.args.input.now c.args.cert.now c.args.opened.now.board (plain_programme c.args.measured.now.programme) c.in-Err.fault is.accepts
    (states_of board_text file c.args.input.now c.args.opened.now (plain_programme c.args.measured.now.programme) is c.requires.counts.states) c.in-Err.ensures.err)
