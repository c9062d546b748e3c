-- Runs of the flat machine, by their events and by their numbers of steps, and what holds of all
-- runs.
use Rattle.std.specs.Prelude.{◌≡◌, ℕ, zero, suc, ◌+◌, List, [], ◌∷◌, ◌++◌, length, None, IsTrue}
use Rattle.rv32im.specs.Memory.{word_at}
use Rattle.rv32im.specs.declared.instructions.Instr.{Instr}
use Rattle.rv32im.specs.Table.{Means}
use Rattle.flat_machine.specs.declared.events.FlatOutcome.{FlatOutcome}
use Rattle.flat_machine.specs.declared.events.FlatOutcome.TheVariants.{GoesOn, Exited, Trapped}
use Rattle.flat_machine.specs.declared.events.FlatEvent.{FlatEvent}
use Rattle.flat_machine.specs.State.{State}
use Rattle.flat_machine.specs.Mapping.{can_access}
use Rattle.flat_machine.specs.Step.{performed, event_of, Step}

-- steps with these events lead from `s` to `t`
abbrev pub Does : List FlatEvent → State → State → Type 0
Does [] s t = t ≡ s
Does (e ∷ es) s t = (m : State) × (Step s e m × Does es m t)

-- `n` steps lead from `s` to `t`
abbrev pub Steps : ℕ → State → State → Type 0
Steps zero s t = t ≡ s
Steps (suc n) s t = (m : State) × (((e : FlatEvent) × Step s e m) × Steps n m t)

-- the machine goes on no more
abbrev pub HasEnded : FlatOutcome → Type 0
HasEnded GoesOn = ⊥
HasEnded (Exited code) = Unit {0}
HasEnded (Trapped pc) = Unit {0}

-- ---- what holds of all runs

-- a machine that goes on and can fetch a word performs the instruction that the word means
abbrev pub PerformsMeaning : Type 0
PerformsMeaning =
    (s : State) (i : Instr) → s.outcome ≡ GoesOn → IsTrue (can_access s.map s.hart.pc 4) →
    Means (word_at s.hart.mem s.hart.pc) i → Step s (event_of s i) (performed s i)

-- runs compose, and a run of two parts can be cut between them
pub record EventsCompose : Type 0 where
  pub joined : (es fs : List FlatEvent) (s m t : State) →
      Does es s m → Does fs m t → Does (es ++ fs) s t
  pub cut : (es fs : List FlatEvent) (s t : State) →
      Does (es ++ fs) s t → (m : State) × (Does es s m × Does fs m t)

pub record StepsCompose : Type 0 where
  pub joined : (j k : ℕ) (s m t : State) → Steps j s m → Steps k m t → Steps (j + k) s t
  pub cut : (j k : ℕ) (s t : State) → Steps (j + k) s t → (m : State) × (Steps j s m × Steps k m t)

-- a run has as many events as steps
pub record EventsCount : Type 0 where
  pub steps : (es : List FlatEvent) (s t : State) → Does es s t → Steps (length es) s t
  pub events : (n : ℕ) (s t : State) →
      Steps n s t → (es : List FlatEvent) × ((length es ≡ n) × Does es s t)

-- a machine that has ended stays as it is, and each further step tells so
pub record EndedStays : Type 0 where
  pub state : (s t : State) (e : FlatEvent) → HasEnded s.outcome → Step s e t → t ≡ s
  pub event : (s t : State) (e : FlatEvent) → HasEnded s.outcome → Step s e t →
      e ≡ record { at = s.hart.pc; outcome = s.outcome; word = 0; access = None }
  pub steps : (n : ℕ) (s t : State) → HasEnded s.outcome → Steps n s t → t ≡ s
  pub any_steps : (n : ℕ) (s : State) → HasEnded s.outcome → Steps n s s

-- the machine has no choice
pub record IsDetermined : Type 0 where
  pub event : (s t u : State) (e f : FlatEvent) → Step s e t → Step s f u → e ≡ f
  pub state : (s t u : State) (e f : FlatEvent) → Step s e t → Step s f u → t ≡ u
  pub events : (es fs : List FlatEvent) (s t u : State) →
      length es ≡ length fs → Does es s t → Does fs s u → es ≡ fs
  pub steps : (n : ℕ) (s t u : State) → Steps n s t → Steps n s u → t ≡ u

-- what was written stays written
abbrev pub OutputGrows : Type 0
OutputGrows = (n : ℕ) (s t : State) → Steps n s t → (more : List ℕ) × (t.output ≡ s.output ++ more)
