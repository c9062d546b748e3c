use Rattle.placement_programme.specs.Views.{plain_programme, plain_choice}
use Rattle.command_line.proofs.Certificates.{accepted_feasible, accepted_reported}
use Rattle.command_line.proofs.check_file.checked.Goals as goal

pub choice_report-requires-clause-feasible : goal.choice_report-requires-clause-feasible
choice_report-requires-clause-feasible c =
    accepted_feasible (plain_programme c.args.programme.now) c.args.cert.now c.in-Ok.accepted.optimal (plain_choice c.in-Ok.accepted.choice) c.in-Ok.ensures.ok

pub returns-in_ok-report-in-Ok-clause-ok : goal.returns-in_ok-report-in-Ok-clause-ok
returns-in_ok-report-in-Ok-clause-ok c =
    accepted_reported (plain_programme c.args.programme.now) c.args.nodes c.args.cert.now c.in-Ok.accepted.optimal (plain_choice c.in-Ok.accepted.choice) _ c.in-Ok.ensures.ok
    c.in_ok-report-in-Ok.ensures
