-- What a unit of a kind does at home, and what words that stand for it do where they stand.
use Rattle.std.specs.Prelude.{◌≡◌, ◌⊎◌, ℕ, ◌*◌, ◌/◌, ◌%◌, ◌<◌, Bool, false, if◌then◌else◌, List, Option}
use Rattle.rv32im.specs.Words.{offset}
use Rattle.rv32im.specs.declared.instructions.Instr.{Instr}
use Rattle.rv32im.specs.Acts.{Registers, register, with_register, is_taken}
use Rattle.flat_machine.specs.declared.events.FlatEvent.{FlatEvent}
use Rattle.flat_machine.specs.State.{State}
use Rattle.flat_machine.specs.Step.{Reads, next_state, next_access, Step}
use Rattle.block_splitter.specs.declared.unit_kind.UnitKind.{UnitKind}
use Rattle.block_splitter.specs.declared.unit_kind.UnitKind.TheVariants.{Upper, Branch, Jump, Call, Tail, Linking}
use Rattle.flat_machine.specs.Lines.{Ran}

-- ---- at home

-- the unit is a branch that is taken
abbrev pub takes : UnitKind → Registers → Bool
takes (Branch kind rs1 rs2 target) regs = is_taken kind (register regs rs1) (register regs rs2)
takes other regs = false

-- the registers behind it, but for the one of a tail: a call and a jump that link leave the way back
abbrev pub regs_after : UnitKind → Registers → Registers
regs_after (Upper rd value) regs = with_register regs rd value
regs_after (Call target back link) regs = with_register regs link back
regs_after (Linking back link base imm) regs = with_register regs link back
regs_after other regs = regs

-- where control is behind it, if it is `behind` for a unit that doesn't jump
abbrev pub next_after : ℕ → UnitKind → Registers → ℕ
next_after behind (Branch kind rs1 rs2 target) regs =
    if is_taken kind (register regs rs1) (register regs rs2) then target else behind
next_after behind (Jump target) regs = target
next_after behind (Call target back link) regs = target
next_after behind (Tail target register) regs = target
next_after behind (Linking back link base imm) regs = offset (register regs base) imm / 2 * 2
next_after behind other regs = behind

-- an instruction may stand there
abbrev pub IsAddress : ℕ → Type 0
IsAddress a = (a < 4294967296) × (a % 2 ≡ 0)

-- what a unit leaves are words, it goes to addresses, and what it links in isn't its base
abbrev pub IsKind : UnitKind → Type 0
IsKind (Upper rd value) = value < 4294967296
IsKind (Branch kind rs1 rs2 target) = IsAddress target
IsKind (Jump target) = IsAddress target
IsKind (Call target back link) = IsAddress target × (back < 4294967296)
IsKind (Tail target register) = IsAddress target × (register ≡ 0 → ⊥)
IsKind (Linking back link base imm) = (back < 4294967296) × ((link ≡ 0) ⊎ (base ≡ link → ⊥))
IsKind other = Unit {0}

-- ---- elsewhere

-- what a step tells that does what a word means
abbrev pub told : State → ℕ → Option Instr → FlatEvent
told s word read =
    record { at = s.hart.pc; outcome = (next_state s read).outcome; word = word; access = next_access s read }

-- one step does what a word means, and nothing else
abbrev pub PerformsWord : State → ℕ → Type 0
PerformsWord s word = (read : Option Instr) → Reads word read → Step s (told s word read) (next_state s read)

-- the words at these addresses do what a unit does: its registers, but for those that may differ, and control at `to`
pub record RowRuns (s : State) (kind : UnitKind) (may_differ : ℕ → Type 0) (fetched : List ℕ) (to : ℕ) : Type 0 where
  pub regs : Registers
  pub ran : Ran s fetched regs to
  pub alike : (k : ℕ) → (regs k ≡ regs_after kind s.hart.regs k) ⊎ may_differ k
