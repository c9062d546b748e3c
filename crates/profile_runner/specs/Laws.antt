-- What holds of the transitions of any run.
use Rattle.std.specs.Prelude.{◌≡◌, ℕ, ◌≤◌, List, length}
use Rattle.object_machine.specs.Program.{Program}
use Rattle.object_machine.specs.State.{SourceState}
use Rattle.object_machine.specs.Runs.{Steps}
use Rattle.profile_runner.specs.Transition.{Transition}
use Rattle.profile_runner.specs.Transitions.{Transitions}

-- they lead where the steps do
abbrev pub TransitionsAreSteps : Type 0
TransitionsAreSteps =
    (p : Program) (n : ℕ) (s t : SourceState) (transitions : List Transition) → Transitions p n s transitions t → Steps p n s t

-- a run has one list of transitions
abbrev pub TransitionsAreDetermined : Type 0
TransitionsAreDetermined =
    (p : Program) (n : ℕ) (s t u : SourceState) (transitions others : List Transition)
    → Transitions p n s transitions t → Transitions p n s others u → transitions ≡ others

-- it has no more transitions than steps
abbrev pub TransitionsAreFew : Type 0
TransitionsAreFew =
    (p : Program) (n : ℕ) (s t : SourceState) (transitions : List Transition) → Transitions p n s transitions t → length transitions ≤ n
