-- Steps of the flat machine that lead from one region to another.
use Rattle.std.specs.Prelude.{◌⊎◌, ℕ, ◌≤◌, List, length, Bool}
use Rattle.flat_machine.specs.State.{State}
use Rattle.flat_machine.specs.Runs.{Does}
use Rattle.flat_machine.specs.declared.events.FlatEvent.{FlatEvent}
use Rattle.object_machine.specs.Program.{Program}
use Rattle.object_machine.specs.State.{SourceState}
use Rattle.object_machine.specs.Paired.{Origins}
use Rattle.simulation.specs.Setups.{Setup, Sound}
use Rattle.simulation.specs.Made.{AreMade}
use Rattle.simulation.specs.Relation.{Alike}
use Rattle.simulation.specs.Ways.{Comes}
use Rattle.simulation.specs.Names.{StateNamesNone}
use Rattle.simulation.specs.Changes.{OthersStay, ChangesRegion, AreAtHomeToo}

-- The other machine may be in another region now: the objects may stand there, and no live register and no cell names
-- one that moves.
pub record MayChange (p : Program) (l : Setup) (live : ℕ → ℕ → Type 0) (holds : ℕ → SourceState → Origins → Type 0) (from to : ℕ) (s : SourceState) (m : Origins) : Type 0 where
  pub sound : Sound p l to
  pub held : holds to s m
  pub moving : ℕ → Bool
  pub others : OthersStay l moving from to
  pub free : StateNamesNone moving (live s.pc) s

-- at most so many steps change the region, and lead to where at most `most` steps lead to a form of the unit at the pc
pub record Switch (p : Program) (l : Setup) (live : ℕ → ℕ → Type 0) (form : ℕ → ℕ → ℕ → Type 0) (holds : ℕ → SourceState → Origins → Type 0) (bound most from : ℕ) (s : SourceState) (m : Origins) (t : State) : Type 0 where
  pub to : ℕ
  pub may : MayChange p l live holds from to s m
  pub homes : AreAtHomeToo p l from s m t
  pub events : List FlatEvent
  pub after : State
  pub does : Does events t after
  pub few : length events ≤ bound
  pub change : ChangesRegion p l live from to s.pc t after
  pub comes : Comes l live form most to s.pc after.hart.pc

-- a way may end at a form, or where such steps begin
abbrev pub MayLand : (ℕ → ℕ → ℕ → Type 0) → (ℕ → ℕ → ℕ → Type 0) → ℕ → ℕ → ℕ → Type 0
MayLand form switches r u a = form r u a ⊎ switches r u a

-- from each state that is alike where the flat pc is at a switch
abbrev pub SwitchesLead : Program → Setup → (ℕ → ℕ → Type 0) → (ℕ → ℕ → ℕ → Type 0) → (ℕ → SourceState → Origins → Type 0) → (ℕ → ℕ → ℕ → Type 0) → ℕ → ℕ → Type 0
SwitchesLead p l live form holds switches bound most =
    (r : ℕ) (s : SourceState) (m : Origins) (t : State) → Sound p l r → holds r s m → Alike p l live r s.pc s m t
    → AreMade p s m → switches r s.pc t.hart.pc → Switch p l live form holds bound most r s m t
