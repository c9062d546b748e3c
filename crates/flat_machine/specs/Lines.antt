-- Words that stand in memory and run one behind the other.
use Rattle.std.specs.Prelude.{◌≡◌, ℕ, zero, suc, ◌+◌, ◌*◌, ◌<◌, true, List, [], ◌∷◌, map, length, slice_index, None, IsTrue}
use Rattle.rv32im.specs.Memory.{Memory, word_at}
use Rattle.rv32im.specs.declared.instructions.Instr.{Instr}
use Rattle.rv32im.specs.declared.instructions.Instr.TheVariants.{Ecall, Ebreak}
use Rattle.rv32im.specs.Table.{Means}
use Rattle.rv32im.specs.Acts.{Hart, Registers, acts, access_of}
use Rattle.board_config.specs.declared.board.Range.{Range}
use Rattle.flat_machine.specs.declared.events.FlatOutcome.TheVariants.{GoesOn}
use Rattle.flat_machine.specs.declared.events.FlatEvent.{FlatEvent}
use Rattle.flat_machine.specs.Mapping.{can_access, is_mapped}
use Rattle.flat_machine.specs.State.{State}
use Rattle.flat_machine.specs.Step.{may_access, event_of}
use Rattle.flat_machine.specs.Runs.{Does}

-- ---- words in memory

-- the `n` addresses from `at` are mapped
abbrev pub AreMapped : List Range → ℕ → ℕ → Type 0
AreMapped map at n = (i : ℕ) → i < n → IsTrue (is_mapped map (at + i))

-- these words stand in memory, from `at` on
abbrev pub HoldsAt : Memory → ℕ → List ℕ → Type 0
HoldsAt mem at words = (k : ℕ) → k < length words → word_at mem (at + 4 * k) ≡ slice_index words k

-- an instruction can be fetched at an address
abbrev pub Fetches : List Range → Memory → ℕ → Instr → Type 0
Fetches map mem at i = (can_access map at 4 ≡ true) × Means (word_at mem at) i

-- these instructions can be fetched one behind the other
abbrev pub CodeAt : List Range → Memory → ℕ → List Instr → Type 0
CodeAt map mem at [] = Unit {0}
CodeAt map mem at (i ∷ is) = Fetches map mem at i × CodeAt map mem (at + 4) is

-- ---- lines

-- a state with another hart
abbrev pub with_hart : State → Hart → State
with_hart s h = record s { hart = h }

-- the instruction asks nothing of the environment
abbrev pub IsOrdinary : Instr → Type 0
IsOrdinary Ecall = ⊥
IsOrdinary Ebreak = ⊥
IsOrdinary other = Unit {0}

-- the hart after all of these instructions
abbrev pub acted : List Instr → Hart → Hart
acted [] h = h
acted (i ∷ is) h = acted is (acts i h)

-- what a machine tells that performs them from this hart on
abbrev pub line_events : State → List Instr → Hart → List FlatEvent
line_events s [] h = []
line_events s (i ∷ is) h = event_of (with_hart s h) i ∷ line_events s is (acts i h)

-- each of them is fetched where the one before it leads, and may make its access
abbrev pub Line : State → List Instr → Hart → Type 0
Line s [] h = Unit {0}
Line s (i ∷ is) h =
    Fetches s.map h.mem h.pc i
    × (IsOrdinary i × ((may_access (with_hart s h) (access_of i h.regs) ≡ true) × Line s is (acts i h)))

-- a machine that goes on performs the instructions of a line, of which the last may be a jump
abbrev pub LinesRun : Type 0
LinesRun =
    (is : List Instr) (s : State) (h : Hart) → s.outcome ≡ GoesOn → Line s is h →
    Does (line_events s is h) (with_hart s h) (with_hart s (acted is h))

-- ---- words that make no access

-- the addresses of `n` words from `at` on
abbrev pub words_from : ℕ → ℕ → List ℕ
words_from at zero = []
words_from at (suc n) = at ∷ words_from (at + 4) n

-- what a step tells that fetches the word at an address, makes no access, and goes on
abbrev pub fetch_of : Memory → ℕ → FlatEvent
fetch_of mem at = record { at = at; outcome = GoesOn; word = word_at mem at; access = None }

-- the state at another address, with other registers
abbrev pub went : State → Registers → ℕ → State
went s regs to = with_hart s (record { pc = to; regs = regs; mem = s.hart.mem })

-- the words at these addresses run in this order, without an access, and leave these registers; control is at `to` then
abbrev pub Ran : State → List ℕ → Registers → ℕ → Type 0
Ran s fetched regs to = Does (map (fetch_of s.hart.mem) fetched) s (went s regs to)

-- the machine goes on at these words, which stand in mapped memory
pub record IsAtWords (s : State) (at : ℕ) (words : List ℕ) : Type 0 where
  pub going : s.outcome ≡ GoesOn
  pub pc : s.hart.pc ≡ at
  pub stand : HoldsAt s.hart.mem at words
  pub fetched : AreMapped s.map at (4 * length words)
