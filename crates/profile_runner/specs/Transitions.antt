-- The steps of a run of the machine without addresses, one by one.
use Rattle.std.specs.Prelude.{◌≡◌, ℕ, zero, suc, List, [], ◌∷◌, Option}
use Rattle.rv32im.specs.declared.instructions.Instr.{Instr}
use Rattle.object_machine.specs.declared.events.Outcome.{Outcome}
use Rattle.object_machine.specs.declared.events.Outcome.TheVariants.{GoesOn, Exited, Trapped, AddressFault}
use Rattle.object_machine.specs.Program.{Program}
use Rattle.object_machine.specs.State.{SourceState}
use Rattle.object_machine.specs.Step.{Reads, next_state, access_of}
use Rattle.profile_runner.specs.Transition.{Transition, is_going}

-- the step from `s` to `t` of a unit whose word means this
abbrev pub transition_of : Program → SourceState → SourceState → Option Instr → Transition
transition_of p s t read =
    record { at = s.pc; next = t.pc; goes_on = is_going t.outcome; access = access_of p s t.outcome read }

-- the transitions of a machine that goes on: the first, and the rest behind it
abbrev pub FirstOf : (SourceState → List Transition → SourceState → Type 0) → Program → SourceState → List Transition → SourceState → Type 0
FirstOf Rest p s transitions t =
    (read : Option Instr)
    × (Reads (p.word s.pc) read
    × ((others : List Transition)
    × ((transitions ≡ transition_of p s (next_state p s read) read ∷ others) × Rest (next_state p s read) others t)))

-- these are the transitions of `n` steps from `s` to `t`; a machine that has ended makes none
abbrev pub TransitionsFrom : Outcome → (SourceState → List Transition → SourceState → Type 0) → Program → SourceState → List Transition → SourceState → Type 0
TransitionsFrom GoesOn Rest p s transitions t = FirstOf Rest p s transitions t
TransitionsFrom (Exited code) Rest p s transitions t = (transitions ≡ []) × (t ≡ s)
TransitionsFrom (Trapped pc) Rest p s transitions t = (transitions ≡ []) × (t ≡ s)
TransitionsFrom (AddressFault pc why) Rest p s transitions t = (transitions ≡ []) × (t ≡ s)

abbrev pub Transitions : Program → ℕ → SourceState → List Transition → SourceState → Type 0
Transitions p zero s transitions t = (transitions ≡ []) × (t ≡ s)
Transitions p (suc n) s transitions t = TransitionsFrom s.outcome (Transitions p n) p s transitions t
