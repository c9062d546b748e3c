-- What holds of all runs of the machine, for any program.
use Rattle.std.specs.Prelude.{◌≡◌, ℕ, ◌+◌, List, ◌++◌}
use Rattle.object_machine.specs.declared.events.Event.{Event}
use Rattle.object_machine.specs.Program.{Program}
use Rattle.object_machine.specs.State.{SourceState}
use Rattle.object_machine.specs.Step.{Step, stays_event}
use Rattle.object_machine.specs.Runs.{Steps, HasEnded}

-- a machine that has ended stays as it is, and each further step tells so
pub record EndedStays : Type 0 where
  pub step : (p : Program) (s t : SourceState) (e : Event) → HasEnded s.outcome → Step p s e t → (t ≡ s) × (e ≡ stays_event s)
  pub steps : (p : Program) (n : ℕ) (s t : SourceState) → HasEnded s.outcome → Steps p n s t → t ≡ s
  pub any_steps : (p : Program) (n : ℕ) (s : SourceState) → HasEnded s.outcome → Steps p n s s

-- the machine has no choice
pub record IsDetermined : Type 0 where
  pub event : (p : Program) (s t u : SourceState) (e f : Event) → Step p s e t → Step p s f u → e ≡ f
  pub state : (p : Program) (s t u : SourceState) (e f : Event) → Step p s e t → Step p s f u → t ≡ u
  pub steps : (p : Program) (n : ℕ) (s t u : SourceState) → Steps p n s t → Steps p n s u → t ≡ u

-- runs compose
abbrev pub StepsCompose : Type 0
StepsCompose =
    (p : Program) (j k : ℕ) (s m t : SourceState) → Steps p j s m → Steps p k m t → Steps p (j + k) s t

-- what was written stays written
abbrev pub OutputGrows : Type 0
OutputGrows = (p : Program) (n : ℕ) (s t : SourceState) → Steps p n s t → (more : List ℕ) × (t.output ≡ s.output ++ more)
