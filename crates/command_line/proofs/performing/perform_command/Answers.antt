use Rattle.command_language.specs.Command.{plain_command}
use Rattle.command_line.proofs.Endings.{performs_from, tells_from, rejected_from, rejected_preparing}
use Rattle.command_line.proofs.ListedNames.{inputs_stand}
use Rattle.command_line.proofs.performing.perform_command.Goals as goal

pub perform_read-requires-clause-inputs : goal.perform_read-requires-clause-inputs
perform_read-requires-clause-inputs g c =
    inputs_stand (plain_command c.args.command.now) _ c.read_inputs-read.new.texts.items c.read_inputs-read.new.listed.items
    (g.S.Shelf.view c.args.shelf.now) (g.S.Shelf.view c.read_inputs-read.new.shelf) c.deref.ensures.value c.deref-2.ensures.value c.in-Ok.ensures.ok

pub returns-in-Ok-perform_read-clause-ok : goal.returns-in-Ok-perform_read-clause-ok
returns-in-Ok-perform_read-clause-ok g c = performs_from _ _ _ _ _ _ c.in-Ok.ensures.ok.same c.in-Ok-perform_read.ensures.ok

pub returns-in-Ok-perform_read-clause-end : goal.returns-in-Ok-perform_read-clause-end
returns-in-Ok-perform_read-clause-end g c = tells_from _ _ _ _ c.in-Ok.ensures.ok.same c.in-Ok-perform_read.ensures.end

pub returns-in-Ok-clause-err : goal.returns-in-Ok-clause-err
returns-in-Ok-clause-err g c = rejected_from _ _ _ _ _ _ _ c.in-Ok.ensures.ok.same c.in-Err-perform_read.ensures.err

pub returns-clause-err : goal.returns-clause-err
returns-clause-err g c = rejected_preparing _ _ _ _ _ _ c.in-Err.ensures.err c.reject.ensures
