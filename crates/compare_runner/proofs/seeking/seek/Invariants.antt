use Rattle.flat_machine.specs.Machine.{state_of}
use Rattle.compare_runner.proofs.SeekLemmas.{SeekSoFar}
use Rattle.compare_runner.proofs.seeking.seek.Given as goal

-- so many steps were taken, and behind none before was the machine where it is looked for
abbrev pub invariant-loop-k : goal.invariant-loop-k
invariant-loop-k g l =
    SeekSoFar l.patch l.next l.fn.before.patched (state_of g.S.ByteStore.byte_at l.initial.flat) l.k (state_of g.S.ByteStore.byte_at l.flat) l.last
