-- One step of the flat machine, as a relation. What a word means is said by the instruction table
-- alone.
use Rattle.std.specs.Prelude.{◌≡◌, ℕ, Bool, true, if◌then◌else◌, Option, Some, None, option_map}
use Rattle.std.specs.Bool.{MatchBool}
use Rattle.rv32im.specs.Memory.{word_at}
use Rattle.rv32im.specs.declared.instructions.Instr.{Instr}
use Rattle.rv32im.specs.declared.instructions.Instr.TheVariants.{Ecall, Ebreak}
use Rattle.rv32im.specs.Table.{Means, MeansNothing}
use Rattle.rv32im.specs.Acts.{Access, acts, access_of}
use Rattle.flat_machine.specs.declared.events.FlatOutcome.{FlatOutcome}
use Rattle.flat_machine.specs.declared.events.FlatOutcome.TheVariants.{GoesOn, Exited, Trapped}
use Rattle.flat_machine.specs.declared.events.FlatEvent.{FlatEvent}
use Rattle.flat_machine.specs.declared.events.FlatAccess.{FlatAccess}
use Rattle.flat_machine.specs.Mapping.{can_access}
use Rattle.flat_machine.specs.State.{State, trap}
use Rattle.flat_machine.specs.Calls.{call}

-- an instruction's load or store, if it has one, is aligned and mapped
abbrev pub may_access : State → Option Access → Bool
may_access s None = true
may_access s (Some access) = can_access s.map access.at access.width

-- the state after an instruction
abbrev pub performed : State → Instr → State
performed s Ecall = call s
performed s Ebreak = trap s
performed s i =
    if may_access s (access_of i s.hart.regs) then record s { hart = acts i s.hart } else trap s

-- the access that an event tells of: that of a load or store that does not trap, by its least
-- address
abbrev pub accessed : State → Instr → Option FlatAccess
accessed s i =
    if may_access s (access_of i s.hart.regs)
    then
    option_map (λ access. record { at = access.at; write = access.write }) (access_of i s.hart.regs)
    else None

-- a word means an instruction, or none
abbrev pub Reads : ℕ → Option Instr → Type 0
Reads w None = MeansNothing w
Reads w (Some i) = Means w i

-- what the machine does with what it read: a word that means nothing is a trap
abbrev pub next_state : State → Option Instr → State
next_state s None = trap s
next_state s (Some i) = performed s i

abbrev pub next_access : State → Option Instr → Option FlatAccess
next_access s None = None
next_access s (Some i) = accessed s i

-- the step reads the word at the pc and does what it means
pub record Performs (s : State) (e : FlatEvent) (t : State) (read : Option Instr) : Type 0 where
  pub reads : Reads (word_at s.hart.mem s.hart.pc) read
  pub state : t ≡ next_state s read
  pub event : e ≡
      record {
        at = s.hart.pc;
        outcome = t.outcome;
        word = word_at s.hart.mem s.hart.pc;
        access = next_access s read;
      }

-- the step reads no word, since it goes on no more or traps at the fetch
pub record ReadsNothing (s : State) (e : FlatEvent) (t next : State) : Type 0 where
  pub state : t ≡ next
  pub event : e ≡ record { at = s.hart.pc; outcome = t.outcome; word = 0; access = None }

-- by the outcome so far: a machine that has ended stays as it is
abbrev pub StepAt : FlatOutcome → State → FlatEvent → State → Type 0
StepAt GoesOn s e t =
    MatchBool (can_access s.map s.hart.pc 4)
    ((read : Option Instr) × Performs s e t read)
    (ReadsNothing s e t (trap s))
StepAt (Exited code) s e t = ReadsNothing s e t s
StepAt (Trapped pc) s e t = ReadsNothing s e t s

-- one step of `s` may tell the event `e` and lead to `t`
abbrev pub Step : State → FlatEvent → State → Type 0
Step s e t = StepAt s.outcome s e t

-- what a step tells that performs an instruction
abbrev pub event_of : State → Instr → FlatEvent
event_of s i =
    record {
      at = s.hart.pc;
      outcome = (performed s i).outcome;
      word = word_at s.hart.mem s.hart.pc;
      access = accessed s i;
    }
