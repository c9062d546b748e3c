use Rattle.object_machine.specs.Program.{Program}
use Rattle.object_machine.specs.State.{SourceState}
use Rattle.object_machine.specs.Runs.{Steps}
use Rattle.object_machine.specs.Machine.{state_of, IsProgram}
use Rattle.compare_runner.specs.Comparing.{IsOver}
use Rattle.compare_runner.proofs.UntilLemmas.{RunsOn}
use Rattle.compare_runner.proofs.running.run_source.Given as goal

-- `k` steps were taken, and behind none before had the program ended
abbrev pub invariant-loop-k : goal.invariant-loop-k
invariant-loop-k l =
    (p : Program) → IsProgram p l.initial.source
    → IsProgram p l.source × RunsOn SourceState (Steps p) IsOver (state_of p l.initial.source) l.k (state_of p l.source)
