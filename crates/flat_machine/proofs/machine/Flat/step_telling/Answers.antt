use Rattle.std.proofs.Common.{sym, subst}
use Rattle.flat_machine.specs.Ops.{instr_of}
use Rattle.flat_machine.specs.Known.{IsKnown, TellsStep}
use Rattle.flat_machine.specs.Machine.{state_of}
use Rattle.flat_machine.proofs.Tables.{known_step}
use Rattle.flat_machine.proofs.machine.Flat.step_telling.Goals as goal

pub returns-then-perform_here-clause-step : goal.returns-then-perform_here-clause-step
returns-then-perform_here-clause-step g c =
    let s = state_of g.S.ByteStore.byte_at c.args.self.now in
    let t = state_of g.S.ByteStore.byte_at c.perform_here.new.self in
    let op = c.kept_at-op.result in
    let known : IsKnown s.map s.hart.mem s.hart.pc (instr_of op) =
    subst (λ o. IsKnown s.map s.hart.mem s.hart.pc (instr_of o)) (sym c.kept_at-op.ensures) (c.is_known.ensures c.if-is_known.true s.map s.hart.mem c.requires.known) in
    subst (λ access. TellsStep s access t) (sym c.access_of_op-access.ensures)
    (known_step s t (instr_of op) c.requires.going known c.if-perform_here.ensures.state)
