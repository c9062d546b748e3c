use Rattle.std.proofs.Common.{◌≡◌, ◌-◌, ◌<◌, ◌≤◌}
use Rattle.flat_machine.specs.declared.events.FlatOutcome.TheVariants.{GoesOn}
use Rattle.flat_machine.specs.Runs.{Steps}
use Rattle.flat_machine.specs.Known.{AreKnown}
use Rattle.flat_machine.specs.Machine.{state_of, state_at}
use Rattle.flat_machine.proofs.machine.Flat.run_near.Given as goal

-- all steps but those that are left were taken, the machine goes on, and the table is right
abbrev pub invariant-loop-left : goal.invariant-loop-left
invariant-loop-left g l = record {
  some : 0 < l.left;
  few : l.left ≤ l.n;
  steps : Steps (l.n - l.left) (state_of g.S.ByteStore.byte_at l.initial.self) (state_at g.S.ByteStore.byte_at l.self l.pc);
  going : (state_of g.S.ByteStore.byte_at l.self).outcome ≡ GoesOn;
  known : AreKnown l.self.map.items (g.S.ByteStore.byte_at l.self.store) l.known;
}

abbrev pub decreases-loop-left : goal.decreases-loop-left
decreases-loop-left g l = l.left
