use Rattle.flat_machine.specs.Runs.{Steps}
use Rattle.flat_machine.specs.State.{State}
use Rattle.flat_machine.specs.Known.{AreKnown}
use Rattle.flat_machine.specs.Machine.{state_of}
use Rattle.compare_runner.specs.Comparing.{IsFar}
use Rattle.compare_runner.proofs.UntilLemmas.{RunsOn}
use Rattle.compare_runner.proofs.running.step_result.Given as goal

-- as many steps were taken as the counter says, before none of them was the result far enough, and the table is right
abbrev pub invariant-loop : goal.invariant-loop
invariant-loop g l = record {
  runs : RunsOn State Steps (IsFar l.source l.written) (state_of g.S.ByteStore.byte_at l.initial.machine) l.counter (state_of g.S.ByteStore.byte_at l.machine);
  known : AreKnown l.machine.map.items (g.S.ByteStore.byte_at l.machine.store) l.known;
}
