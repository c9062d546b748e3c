use Rattle.object_machine.specs.Program.{Program}
use Rattle.object_machine.specs.Runs.{Steps}
use Rattle.object_machine.specs.Machine.{state_of, IsProgram}
use Rattle.object_machine.proofs.machine.Source.run.Given as goal

-- as many steps were taken as the counter says
abbrev pub invariant-loop : goal.invariant-loop
invariant-loop l =
    (p : Program) → IsProgram p l.initial.self
    → IsProgram p l.self × Steps p l.counter (state_of p l.initial.self) (state_of p l.self)
