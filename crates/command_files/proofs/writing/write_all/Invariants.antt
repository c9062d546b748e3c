use Rattle.command_files.specs.Writing.{SetsPrepared}
use Rattle.command_files.proofs.writing.write_all.Given as goal

abbrev pub invariant-loop-output : goal.invariant-loop-output
invariant-loop-output g l = SetsPrepared l.yielded (g.S.Shelf.view l.initial.shelf) (g.S.Shelf.view l.shelf)
