use Rattle.object_machine.proofs.LinkLemmas.{whole_step, no_step}
use Rattle.object_machine.proofs.machine.Source.step_going.Goals as goal

pub returns-in-Ok-clause-step : goal.returns-in-Ok-clause-step
returns-in-Ok-clause-step g c p agrees =
    whole_step p c.args.self.now c.step_on.new.self c.in-Ok.event c.in-Ok.ensures.tables c.in-Ok.ensures.step agrees

pub returns-in-Err-clause-err : goal.returns-in-Err-clause-err
returns-in-Err-clause-err g c p agrees =
    no_step p c.args.self.now c.step_on.new.self c.in-Err.ensures.tables c.in-Err.ensures.err agrees
