use Rattle.std.proofs.Common.{sym}
use Rattle.object_machine.specs.Machine.{seen, seen_state}
use Rattle.object_machine.proofs.CallLemmas.{plain_none, plain_some}
use Rattle.object_machine.proofs.machine.Source.plain_bytes.Goals as goal

pub returns-in-None : goal.returns-in-None
returns-in-None c =
    let m = c.args.self.now in
    plain_none (seen m) (seen_state m) c.args.n c.loop-i.i c.loop-i.bytes.items c.loop-i-test.true c.loop-i.invariant
    (sym (rw c.register-start.ensures.value at c.in-None.ensures))

pub loop-i-preserved : goal.loop-i-preserved
loop-i-preserved c =
    let m = c.args.self.now in
    plain_some (seen m) (seen_state m) c.loop-i.i c.in-Some.byte c.loop-i.bytes.items c.push.new.self.items c.loop-i.invariant
    (sym (rw c.register-start.ensures.value at c.in-Some.ensures))
    c.in_ok-push-in-Some.ensures.items
