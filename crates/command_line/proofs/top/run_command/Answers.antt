use Rattle.std.proofs.Common.{rules}
use Rattle.command_line.proofs.Causes.{done_of_performs, has_cause, usage_cause}
use Rattle.command_line.proofs.Exactness.{done_usage, done_command, ends_rejected, ends_usage, ends_command}
use Rattle.command_line.proofs.Promises.{keeps_promise}
use Rattle.command_line.proofs.AfterPaid.{prints_paid}
use Rattle.command_line.proofs.top.run_command.Goals as goal

pub returns-in-Ok-clause-promise : goal.returns-in-Ok-clause-promise
returns-in-Ok-clause-promise g c ok =
    keeps_promise c.kept_does_what_file_does.ensures _ _ _ _ _ (done_of_performs _ _ _ _ _ _ c.in-Some.ensures c.in-Ok.ensures.ok)

pub returns-in-Ok-clause-pays : goal.returns-in-Ok-clause-pays
returns-in-Ok-clause-pays g c ok =
    prints_paid c.results_pay.ensures _ _ _ _ _ (done_of_performs _ _ _ _ _ _ c.in-Some.ensures c.in-Ok.ensures.ok)

pub returns-in-Ok-clause-done : goal.returns-in-Ok-clause-done
returns-in-Ok-clause-done g c ok = done_of_performs _ _ _ _ _ _ c.in-Some.ensures c.in-Ok.ensures.ok

pub returns-in-Ok-clause-exact : goal.returns-in-Ok-clause-exact
returns-in-Ok-clause-exact g c =
    let done = done_of_performs _ _ _ _ _ _ c.in-Some.ensures c.in-Ok.ensures.ok in
    (done_usage _ _ _ _ _ done, done_command _ _ _ _ _ done)

pub returns-in-Ok-clause-measured : goal.returns-in-Ok-clause-measured
returns-in-Ok-clause-measured g c ok = record { command = _; is_command = c.in-Some.ensures; of_shelf = c.in-Ok.ensures.end }

-- no fault has status 0
pub returns-in-Err-clause-promise : goal.returns-in-Err-clause-promise
returns-in-Err-clause-promise g c zero = let none : ⊥ = search rules in absurd none

pub returns-in-Err-clause-pays : goal.returns-in-Err-clause-pays
returns-in-Err-clause-pays g c zero = let none : ⊥ = search rules in absurd none

pub returns-in-Err-clause-rejected : goal.returns-in-Err-clause-rejected
returns-in-Err-clause-rejected g c fails =
    ends_rejected _ _ _ _ _ _ _ _ (has_cause _ _ _ _ _ _ _ c.in-Some.ensures c.in-Err.ensures.err) c.tell-in-Err.ensures.status c.tell-in-Err.ensures.line

pub returns-in-Err-clause-exact : goal.returns-in-Err-clause-exact
returns-in-Err-clause-exact g c =
    let cause = has_cause _ _ _ _ _ _ _ c.in-Some.ensures c.in-Err.ensures.err in
    let ended = ends_rejected _ _ _ _ _ _ _ _ cause c.tell-in-Err.ensures.status c.tell-in-Err.ensures.line in
    (ends_usage _ _ _ _ _ _ ended, ends_command _ _ _ _ _ _ ended)

pub returns-in_default-clause-rejected : goal.returns-in_default-clause-rejected
returns-in_default-clause-rejected g c fails =
    ends_rejected _ _ _ _ _ _ _ _ (usage_cause _ _ _ _ c.in_default.ensures c.new.ensures) c.tell.ensures.status c.tell.ensures.line
