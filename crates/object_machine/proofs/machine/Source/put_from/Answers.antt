use Rattle.std.proofs.Common.{length}
use Rattle.object_machine.specs.Machine.{here}
use Rattle.object_machine.proofs.CallLemmas.{spans_fixed, spans_inside}
use Rattle.object_machine.proofs.machine.Source.put_from.Goals as goal

pub put_fixed-requires-clause-spans : goal.put_fixed-requires-clause-spans
put_fixed-requires-clause-spans c =
    let m = c.args.self.now in
    spans_fixed m.tables (here m) c.in-Int.at (length c.args.cells.now) (rw c.in-Int.is at c.requires.room)

pub put_inside-requires-clause-spans : goal.put_inside-requires-clause-spans
put_inside-requires-clause-spans c =
    let m = c.args.self.now in
    spans_inside m.tables (here m) c.in-Addr.obj c.in-Addr.off (length c.args.cells.now) (rw c.in-Addr.is at c.requires.named) (rw c.in-Addr.is at c.requires.room)

pub returns-in-Int-clause-ok : goal.returns-in-Int-clause-ok
returns-in-Int-clause-ok c = rw c.in-Int.is c.put_fixed.ensures.state

pub returns-in-Addr-clause-ok : goal.returns-in-Addr-clause-ok
returns-in-Addr-clause-ok c = rw c.in-Addr.is c.put_inside.ensures.state
