use Rattle.std.proofs.Common.{map}
use Rattle.command_language.specs.Command.{plain_named}
use Rattle.command_files.specs.Reading.{contents}
use Rattle.command_files.proofs.Readings.{one_rejected, is_reached}
use Rattle.command_files.proofs.reading.read_all.Goals as goal

pub returns-in-Err-clause-err : goal.returns-in-Err-clause-err
returns-in-Err-clause-err g c =
    one_rejected (map plain_named c.args.names.now) _ (g.S.Shelf.view c.args.shelf.now) (g.S.Shelf.view c.loop-named.shelf) (g.S.Shelf.view c.push_text.new.shelf) c.in-Err.fault
    (is_reached (g.S.Shelf.view c.args.shelf.now) c.args.names.now c.loop-named.named-index _ (contents c.loop-named.texts.items) c.loop-named-test.true c.loop-named.invariant.held) c.loop-named.invariant.same c.in-Err.ensures.err
