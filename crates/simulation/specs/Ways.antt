-- How the flat machine comes from where the words of a unit lead to a form of the next unit, and what whole runs over
-- units at any form rest on.
use Rattle.std.specs.Prelude.{◌≡◌, ℕ, suc, ◌+◌, ◌*◌, ◌/◌, ◌%◌, ◌≤◌, true, List, [], ◌∷◌, ◌++◌, length, Option, ℤ}
use Rattle.rv32im.specs.Words.{plus, offset}
use Rattle.rv32im.specs.Acts.{Registers, register}
use Rattle.rv32im.specs.Table.{Means}
use Rattle.rv32im.specs.declared.instructions.Instr.{Instr}
use Rattle.rv32im.specs.declared.instructions.Instr.TheVariants.{Lui, Jal, Jalr}
use Rattle.flat_machine.specs.Lines.{Ran}
use Rattle.flat_machine.specs.State.{State}
use Rattle.flat_machine.specs.Runs.{Does}
use Rattle.flat_machine.specs.declared.events.FlatEvent.{FlatEvent}
use Rattle.object_machine.specs.declared.events.Outcome.TheVariants.{GoesOn}
use Rattle.object_machine.specs.Program.{Program}
use Rattle.object_machine.specs.State.{SourceState}
use Rattle.object_machine.specs.Step.{Reads, next_state}
use Rattle.object_machine.specs.Paired.{Origins, origins_after, is_paired_step}
use Rattle.simulation.specs.Setups.{Setup, Sound}
use Rattle.simulation.specs.Units.{StandsAt}
use Rattle.simulation.specs.Made.{AreMade}
use Rattle.simulation.specs.Relation.{Alike}
use Rattle.simulation.specs.Forms.{IsAt}

-- ---- ways

-- where a jump by a register goes that a LUI has just written
abbrev pub reached_by : ℕ → ℤ → ℕ
reached_by h z = offset (h * 4096 % 4294967296) z / 2 * 2

-- words run without an access, lead to an address, and leave the registers that matter at `v`
pub record Passes (live : ℕ → ℕ → Type 0) (v : ℕ) (t : State) (fetched : List ℕ) (to : ℕ) : Type 0 where
  pub regs : Registers
  pub ran : Ran t fetched regs to
  pub alike : (k : ℕ) → live v k → register regs k ≡ register t.hart.regs k

-- While region `r` is current, so many steps lead from an address to a form of the unit at `v`: there is one there, or
-- words lead on. A near jump writes no register, and a far one a register that doesn't matter at `v`; so may any words.
pub data Way (l : Setup) (live : ℕ → ℕ → Type 0) (form : ℕ → ℕ → ℕ → Type 0) (r v : ℕ) : ℕ → ℕ → Type 0 where
  There : (c : ℕ) → form r v c → Way l live form r v 0 c
  Near : (n c w : ℕ) (z : ℤ) → StandsAt l r c w → Means w (Jal 0 z) → Way l live form r v n (offset c z)
      → Way l live form r v (suc n) c
  Far : (n c w x d h : ℕ) (z : ℤ) → StandsAt l r c w → Means w (Lui d h) → StandsAt l r (plus c 4) x → Means x (Jalr 0 d z)
      → (d ≡ 0 → ⊥) → (live v d → ⊥) → Way l live form r v n (reached_by h z) → Way l live form r v (suc (suc n)) c
  Across : (n c to : ℕ) (fetched : List ℕ) → ((t : State) → IsAt l r c t → Passes live v t fetched to)
      → Way l live form r v n to → Way l live form r v (length fetched + n) c

-- the addresses that are fetched on the way
abbrev pub way_fetched : (l : Setup) (live : ℕ → ℕ → Type 0) (form : ℕ → ℕ → ℕ → Type 0) (r v n c : ℕ) → Way l live form r v n c → List ℕ
way_fetched l live form r v _ _ (There c at) = []
way_fetched l live form r v _ _ (Near n c w z stands means way) = c ∷ way_fetched l live form r v n (offset c z) way
way_fetched l live form r v _ _ (Far n c w x d h z stands means stands_behind jumps other dead way) =
    c ∷ plus c 4 ∷ way_fetched l live form r v n (reached_by h z) way
way_fetched l live form r v _ _ (Across n c to fetched passes way) = fetched ++ way_fetched l live form r v n to way

-- there is a way of at most `most` steps
abbrev pub Comes : Setup → (ℕ → ℕ → Type 0) → (ℕ → ℕ → ℕ → Type 0) → ℕ → ℕ → ℕ → ℕ → Type 0
Comes l live form most r v c = (n : ℕ) × ((n ≤ most) × Way l live form r v n c)

-- ---- whole runs

-- both machines are before a unit, the flat one at some form of it, while some region is current; `holds` may say more
-- of the other machine while a region is current
pub record AtAny (p : Program) (l : Setup) (live : ℕ → ℕ → Type 0) (form : ℕ → ℕ → ℕ → Type 0) (holds : ℕ → SourceState → Origins → Type 0) (s : SourceState) (m : Origins) (t : State) : Type 0 where
  pub region : ℕ
  pub sound : Sound p l region
  pub held : holds region s m
  pub alike : Alike p l live region s.pc s m t
  pub made : AreMade p s m
  pub at : form region s.pc t.hart.pc

-- Where the flat machine comes to a unit, steps lead to a form of it, and `tells s t es` is told of them. The region may
-- change on the way, so what holds of the other machine must stay while it makes a step from a form.
pub record Arrivals (p : Program) (l : Setup) (live : ℕ → ℕ → Type 0) (comes form : ℕ → ℕ → ℕ → Type 0) (holds : ℕ → SourceState → Origins → Type 0) (tells : SourceState → State → List FlatEvent → Type 0) : Type 0 where
  pub stays : (r a : ℕ) (s : SourceState) (m : Origins) (read : Option Instr) → form r s.pc a → holds r s m → s.outcome ≡ GoesOn
      → Reads (p.word s.pc) read → is_paired_step p s m read ≡ true → (next_state p s read).outcome ≡ GoesOn
      → holds r (next_state p s read) (origins_after p s m read)
  pub arrives : (r : ℕ) (s : SourceState) (m : Origins) (t : State) → Sound p l r → holds r s m → Alike p l live r s.pc s m t
      → AreMade p s m → comes r s.pc t.hart.pc
      → (es : List FlatEvent) × ((t' : State) × (Does es t t' × (tells s t es × AtAny p l live form holds s m t')))

-- what is told of a step is told of the events of the unit and those of the arrival behind it; where the other machine
-- goes on no more, none follow
pub record TellsJoin (p : Program) (unit : SourceState → Option Instr → State → List FlatEvent → Type 0) (arrival : SourceState → State → List FlatEvent → Type 0) (tells : SourceState → Option Instr → State → List FlatEvent → Type 0) : Type 0 where
  pub joined : (s : SourceState) (read : Option Instr) (t t' : State) (es fs : List FlatEvent) → unit s read t es → Does es t t'
      → arrival (next_state p s read) t' fs → tells s read t (es ++ fs)
  pub alone : (s : SourceState) (read : Option Instr) (t : State) (es : List FlatEvent)
      → ((next_state p s read).outcome ≡ GoesOn → ⊥) → unit s read t es → tells s read t es

-- at most so many steps for an arrival
abbrev pub within : ℕ → SourceState → State → List FlatEvent → Type 0
within most s t es = length es ≤ most
