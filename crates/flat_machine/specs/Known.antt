-- The table of decoded instructions of a run: what words in memory mean, in slots by their addresses.
use Rattle.std.specs.Prelude.{◌≡◌, ℕ, ◌/◌, ◌%◌, ◌<◌, List, length, slice_index_or, Option, Some, None, IsTrue}
use Rattle.rv32im.specs.Memory.{Memory, word_at}
use Rattle.rv32im.specs.declared.instructions.Instr.{Instr}
use Rattle.rv32im.specs.Table.{Means, IsInRange}
use Rattle.board_config.specs.declared.board.Range.{Range}
use Rattle.flat_machine.specs.declared.events.FlatEvent.{FlatEvent}
use Rattle.flat_machine.specs.declared.events.FlatAccess.{FlatAccess}
use Rattle.flat_machine.specs.declared.known.Known.{Known}
use Rattle.flat_machine.specs.declared.op.Op.{Op}
use Rattle.flat_machine.specs.declared.op.Op.TheVariants.{Lui}
use Rattle.flat_machine.specs.Ops.{instr_of}
use Rattle.flat_machine.specs.Mapping.{can_access}
use Rattle.flat_machine.specs.State.{State, trap}
use Rattle.flat_machine.specs.Step.{Step}

-- the word at an address can be fetched, and means the instruction
pub record IsKnown (map : List Range) (mem : Memory) (at : ℕ) (i : Instr) : Type 0 where
  pub fetches : IsTrue (can_access map at 4)
  pub means : Means (word_at mem at) i
  pub in_range : IsInRange i

-- the slot of an address, of so many
abbrev pub slot_of : ℕ → ℕ → ℕ
slot_of slots at = at / 4 % slots

-- a slot in which nothing is kept has no address below 2 ^ 32
abbrev pub vacant : Known
vacant = record { at = 4294967296; op = Lui 0 0 }

-- what slot `k` of so many keeps is so, and belongs there
pub record HoldsIn (map : List Range) (mem : Memory) (slots k : ℕ) (slot : Known) : Type 0 where
  pub known : IsKnown map mem slot.at (instr_of slot.op)
  pub place : slot_of slots slot.at ≡ k

abbrev pub SlotHolds : List Range → Memory → ℕ → ℕ → Known → Type 0
SlotHolds map mem slots k slot = slot.at < 4294967296 → HoldsIn map mem slots k slot

-- all that is kept is so
unfoldable pub AreKnown : List Range → Memory → List Known → Type 0
AreKnown map mem known =
    (k : ℕ) (d : Known) → k < length known → SlotHolds map mem (length known) k (slice_index_or known k d)

-- what is kept in the slot of an address
abbrev pub op_at : List Known → ℕ → Op
op_at known at = (slice_index_or known (slot_of (length known) at) vacant).op

-- one step leads from `s` to `t`; its event is at the pc of `s` and tells of this access
pub record TellsStep (s : State) (access : Option FlatAccess) (t : State) : Type 0 where
  pub event : FlatEvent
  pub step : Step s event t
  pub at_is : event.at ≡ s.hart.pc
  pub access_is : event.access ≡ access

-- and of some access, or none
abbrev pub TakesStep : State → State → Type 0
TakesStep s t = (access : Option FlatAccess) × TellsStep s access t

-- what the word at the pc of a machine that goes on is fetched as: what it means, or nothing, so that the machine traps
abbrev pub Fetched : State → Option Instr → Type 0
Fetched s (Some i) = IsKnown s.map s.hart.mem s.hart.pc i
Fetched s None = TellsStep s None (trap s)
