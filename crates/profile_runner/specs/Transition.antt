-- What a profile needs to know of each step of a run.
use Rattle.std.specs.Prelude.{ℕ, Bool, true, false, List, slice_index_or, Option, None}
use Rattle.object_machine.specs.declared.events.Access.{Access}
use Rattle.object_machine.specs.declared.events.Outcome.{Outcome}
use Rattle.object_machine.specs.declared.events.Outcome.TheVariants.{GoesOn, Exited, Trapped, AddressFault}

-- one step: where its unit is and where the machine is behind it, whether the machine goes on, and its load or
-- store on an object
pub record Transition : Type 0 where
  pub at : ℕ
  pub next : ℕ
  pub goes_on : Bool
  pub access : Option Access

abbrev pub is_going : Outcome → Bool
is_going GoesOn = true
is_going (Exited code) = false
is_going (Trapped pc) = false
is_going (AddressFault pc why) = false

-- transition `i` of a run; one of nothing behind the last
abbrev pub no_transition : Transition
no_transition = record { at = 0; next = 0; goes_on = false; access = None }

abbrev pub transition_at : List Transition → ℕ → Transition
transition_at transitions i = slice_index_or transitions i no_transition
