-- What each kind of unit is proved to do, over any choice of the registers that matter, of the places where the flat
-- machine may arrive, and of what is told of its events.
use Rattle.std.proofs.Common.{◌≡◌, ℕ, false, true, List, Option, Some}
use Rattle.rv32im.specs.declared.instructions.Instr.{Instr}
use Rattle.flat_machine.specs.declared.events.FlatEvent.{FlatEvent}
use Rattle.flat_machine.specs.State.{State}
use Rattle.object_machine.specs.Program.{Program}
use Rattle.object_machine.specs.State.{SourceState}
use Rattle.object_machine.specs.Step.{Reads, next_state}
use Rattle.object_machine.specs.Paired.{Origins, origins_after, is_paired_step}
use Rattle.simulation.specs.Setups.{Setup, Sound}
use Rattle.simulation.specs.Made.{AreMade}
use Rattle.simulation.specs.Relation.{Alike, LeadsTold}
use Rattle.simulation.specs.Rules.{LiveRules}
use Rattle.simulation.specs.Forms.{WordsAt, WordsTell}

-- both machines are before a unit
pub record Before (p : Program) (l : Setup) (live : ℕ → ℕ → Type 0) (r : ℕ) (s : SourceState) (m : Origins) (t : State) : Type 0 where
  pub sound : Sound p l r
  pub rules : LiveRules p live
  pub alike : Alike p l live r s.pc s m t
  pub made : AreMade p s m

-- and the flat machine is where as many words as the unit has stand for it
pub record StepPremises (p : Program) (l : Setup) (live arrive : ℕ → ℕ → Type 0) (tells : List FlatEvent → Type 0) (r : ℕ) (s : SourceState) (m : Origins) (t : State) : Type 0 where
  pub before : Before p l live r s m t
  pub unit : WordsAt p l arrive r s.pc t.hart.pc
  pub told : WordsTell p tells s.pc t

-- a paired step that reads this leads on
abbrev pub StepsOn : Program → Setup → (ℕ → ℕ → Type 0) → (ℕ → ℕ → Type 0) → (List FlatEvent → Type 0) → ℕ → SourceState → Origins → State → Option Instr → Type 0
StepsOn p l live arrive tells r s m t read =
    StepPremises p l live arrive tells r s m t → Reads (p.word s.pc) read → is_paired_step p s m read ≡ true
    → LeadsTold tells p l live arrive r (next_state p s read) (origins_after p s m read) t

-- one that is an instruction, and no call of two words
abbrev pub StepsAs : Program → Setup → (ℕ → ℕ → Type 0) → (ℕ → ℕ → Type 0) → (List FlatEvent → Type 0) → ℕ → SourceState → Origins → State → Instr → Type 0
StepsAs p l live arrive tells r s m t i = p.is_pair s.pc ≡ false → StepsOn p l live arrive tells r s m t (Some i)
