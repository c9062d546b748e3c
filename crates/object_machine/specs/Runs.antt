-- Runs of the machine.
use Rattle.std.specs.Prelude.{◌≡◌, ℕ, zero, suc, List, [], ◌∷◌}
use Rattle.object_machine.specs.declared.events.Event.{Event}
use Rattle.object_machine.specs.declared.events.Outcome.{Outcome}
use Rattle.object_machine.specs.declared.events.Outcome.TheVariants.{GoesOn, Exited, Trapped, AddressFault}
use Rattle.object_machine.specs.Program.{Program}
use Rattle.object_machine.specs.State.{SourceState}
use Rattle.object_machine.specs.Step.{Step}

-- `n` steps lead from `s` to `t`
abbrev pub Steps : Program → ℕ → SourceState → SourceState → Type 0
Steps p zero s t = t ≡ s
Steps p (suc n) s t = (m : SourceState) × (((e : Event) × Step p s e m) × Steps p n m t)

-- the machine goes on no more
abbrev pub HasEnded : Outcome → Type 0
HasEnded GoesOn = ⊥
HasEnded (Exited code) = Unit {0}
HasEnded (Trapped pc) = Unit {0}
HasEnded (AddressFault pc why) = Unit {0}
