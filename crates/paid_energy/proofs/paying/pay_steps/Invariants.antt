use Rattle.flat_machine.specs.Known.{AreKnown}
use Rattle.flat_machine.specs.Machine.{state_of}
use Rattle.paid_energy.proofs.RunLemmas.{PaidSoFar}
use Rattle.paid_energy.proofs.paying.pay_steps.Given as goal

-- as many steps were taken as the counter says, and the table is right
abbrev pub invariant-loop : goal.invariant-loop
invariant-loop g l = record {
  paid : PaidSoFar l.board (state_of g.S.ByteStore.byte_at l.initial.flat) (state_of g.S.ByteStore.byte_at l.flat) l.counter l.steps l.energy;
  known : AreKnown l.flat.map.items (g.S.ByteStore.byte_at l.flat.store) l.known;
}
