use Rattle.std.proofs.Common.{sym, subst}
use Rattle.flat_machine.specs.Ops.{instr_of}
use Rattle.flat_machine.specs.Known.{IsKnown}
use Rattle.flat_machine.specs.Machine.{state_at}
use Rattle.flat_machine.proofs.Tables.{known_or_not}
use Rattle.flat_machine.proofs.machine.Flat.step_near.Goals as goal

pub returns-clause-step : goal.returns-clause-step
returns-clause-step g c =
    let s = state_at g.S.ByteStore.byte_at c.args.self.now c.args.pc.now in
    let t = state_at g.S.ByteStore.byte_at c.perform_near.new.self c.perform_near.new.pc in
    let op = c.kept_at-op.result in
    let known : IsKnown s.map s.hart.mem s.hart.pc (instr_of op) =
    subst (λ o. IsKnown s.map s.hart.mem s.hart.pc (instr_of o)) (sym c.kept_at-op.ensures) (c.is_known.ensures c.if-not-is_known.false s.map s.hart.mem c.requires.known) in
    known_or_not c.perform_near.result s t (instr_of op) c.requires.going known c.perform_near.ensures.state
