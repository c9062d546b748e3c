use Rattle.placement_programme.specs.Views.{plain_programme, plain_choice}
use Rattle.command_line.proofs.Certificates.{accepted_feasible, certificate_told, states_of}
use Rattle.command_line.proofs.Paying.{choice_for, check_rejected_first}
use Rattle.result_map.proofs.MapLemmas.{maps_to}
use Rattle.result_map.proofs.mapping.choice_map.Goals as goal

pub made_map-requires-clause-opened : goal.made_map-requires-clause-opened
made_map-requires-clause-opened c = (c.requires.opened.1.0, c.requires.opened.1.1.analysed)

pub made_map-requires-clause-choice : goal.made_map-requires-clause-choice
made_map-requires-clause-choice c =
    choice_for c.requires.opened.1.0 c.args.input.now c.args.opened.now c.args.measured.now (plain_choice c.in-Ok.accepted.choice) c.requires.opened.1.1.analysed c.requires.counts
    (accepted_feasible (plain_programme c.args.measured.now.programme) c.args.cert.now c.in-Ok.accepted.optimal (plain_choice c.in-Ok.accepted.choice) c.in-Ok.ensures.ok)

pub returns-in-Ok-made_map-clause-ok : goal.returns-in-Ok-made_map-clause-ok
returns-in-Ok-made_map-clause-ok c board_text file is =
    maps_to board_text file c.args.input.now c.args.cert.now c.in-Ok-made_map.text.items c.args.opened.now c.args.measured.now c.in-Ok.accepted.optimal (plain_choice c.in-Ok.accepted.choice) is c.requires.counts
    c.in-Ok.ensures.ok (c.in-Ok-made_map.ensures file is.analysed)

pub returns-clause-err : goal.returns-clause-err
returns-clause-err c board_text file is =
    check_rejected_first board_text file c.args.input.now c.args.cert.now c.in-Err.fault
    (certificate_told board_text file c.args.input.now c.args.cert.now c.args.opened.now.board (plain_programme c.args.measured.now.programme) c.in-Err.fault is.accepts
    (states_of board_text file c.args.input.now c.args.opened.now (plain_programme c.args.measured.now.programme) is c.requires.counts.states) c.in-Err.ensures.err)
