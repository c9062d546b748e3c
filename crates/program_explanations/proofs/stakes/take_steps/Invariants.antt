use Rattle.flat_machine.specs.Known.{AreKnown}
use Rattle.program_explanations.proofs.stakes.take_steps.Given as goal

-- the table is right
abbrev pub invariant-loop : goal.invariant-loop
invariant-loop g l = AreKnown l.machine.map.items (g.S.ByteStore.byte_at l.machine.store) l.known
