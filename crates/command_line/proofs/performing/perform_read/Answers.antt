use Rattle.std.proofs.Common.{inr, refl}
use Rattle.command_line.specs.InputTexts.{inputs_in}
use Rattle.command_line.proofs.Endings.{performs, rejected_delivery, rejected_preparing}
use Rattle.command_line.proofs.performing.perform_read.Goals as goal

pub returns-in-Ok-deliver-clause-ok : goal.returns-in-Ok-deliver-clause-ok
returns-in-Ok-deliver-clause-ok g c =
    performs _ _ _ _ _ _ _
    (record { inputs = inputs_in c.args.inputs.now; holds = c.requires.inputs.holds; same = refl; prepared_for = c.in-Ok.ensures.ok })
    c.in-Ok-deliver.ensures.ok

pub returns-in-Ok-deliver-clause-end : goal.returns-in-Ok-deliver-clause-end
returns-in-Ok-deliver-clause-end g c =
    record { inputs = inputs_in c.args.inputs.now; holds = c.requires.inputs.holds; tells = c.in-Ok.ensures.ok.measured }

pub returns-in-Err-deliver-clause-err : goal.returns-in-Err-deliver-clause-err
returns-in-Err-deliver-clause-err g c =
    rejected_delivery _ _ _ _ _ _ _ _
    (record { inputs = inputs_in c.args.inputs.now; holds = c.requires.inputs.holds; same = refl; prepared_for = c.in-Ok.ensures.ok })
    c.in-Err-deliver.ensures.err

pub returns-in-Err-clause-err : goal.returns-in-Err-clause-err
returns-in-Err-clause-err g c =
    rejected_preparing _ _ _ _ _ _
    (inr (record { inputs = inputs_in c.args.inputs.now; holds = c.requires.inputs.holds; same = refl; rejects = c.in-Err.ensures.err }))
    c.reject.ensures
