-- The laws of steps and runs.
use Rattle.std.specs.Prelude.{◌≡◌, ℕ, ◌+◌, ◌*◌, true, false, List, Option}
use Rattle.elf_reader.specs.File.{PlainView}
use Rattle.rv32im.specs.declared.instructions.Instr.{Instr}
use Rattle.flat_machine.specs.State.{State}
use Rattle.flat_machine.specs.Runs.{Steps}
use Rattle.object_graph.specs.declared.parts.Graph.{Graph}
use Rattle.object_machine.specs.declared.events.Outcome.{Outcome}
use Rattle.object_machine.specs.declared.events.Outcome.TheVariants.{GoesOn, Exited, Trapped, AddressFault}
use Rattle.object_machine.specs.Program.{Program}
use Rattle.object_machine.specs.State.{SourceState}
use Rattle.object_machine.specs.Step.{Reads, next_state}
use Rattle.object_machine.specs.Start.{start_of}
use Rattle.object_machine.specs.Paired.{Origins, at_start, origins_after, is_paired_step, PairedSteps}
use Rattle.flat_machine.specs.declared.events.FlatOutcome as flat
use Rattle.simulation.specs.Setups.{Setup, Sound}
use Rattle.simulation.specs.Made.{AreMade}
use Rattle.simulation.specs.Relation.{Alike, KeepsPace, Leads}
use Rattle.simulation.specs.Rules.{all_live, UnitAt}

-- the flat pc is at the unit itself
abbrev pub at_home : ℕ → ℕ → Type 0
at_home u a = a ≡ u

-- a unit at its home: one step of a paired run, and one or two of the flat machine
abbrev pub UnitsAtHome : Type 0
UnitsAtHome =
    (p : Program) (l : Setup) (r : ℕ) (s : SourceState) (m : Origins) (t : State) (read : Option Instr)
    → Sound p l r → UnitAt p l r s.pc → Alike p l all_live r s.pc s m t → AreMade p s m
    → at_home s.pc t.hart.pc → Reads (p.word s.pc) read → is_paired_step p s m read ≡ true
    → Leads 2 p l all_live at_home r (next_state p s read) (origins_after p s m read) t

-- the AUIPC beside an upper part made it: at the start of a program, and behind each step that goes on
abbrev pub MadeAtStart : Type 0
MadeAtStart =
    (v : PlainView) (p : Program) (g : Graph) (input : List ℕ) → AreMade p (start_of v p g input) at_start

abbrev pub MadeStays : Type 0
MadeStays =
    (p : Program) (s : SourceState) (m : Origins) (read : Option Instr) → AreMade p s m → Reads (p.word s.pc) read
    → (next_state p s read).outcome ≡ GoesOn → AreMade p (next_state p s read) (origins_after p s m read)

-- ---- runs

-- the flat machine has written the same and ended alike, or goes on
abbrev pub EndsAlike : Outcome → SourceState → State → Type 0
EndsAlike GoesOn s t = (t.outcome ≡ flat.TheVariants.GoesOn) × (t.output ≡ s.output)
EndsAlike (Exited code) s t = (t.outcome ≡ flat.TheVariants.Exited code) × (t.output ≡ s.output)
EndsAlike (Trapped pc) s t = ((a : ℕ) × (t.outcome ≡ flat.TheVariants.Trapped a)) × (t.output ≡ s.output)
EndsAlike (AddressFault pc why) s t = Unit {0}

-- so does it where `n` steps of the other machine led to `s`, by steps that keep pace with them
abbrev pub Keeps : ℕ → ℕ → SourceState → State → Type 0
Keeps n bound s t =
    (k : ℕ) × ((t' : State) × (KeepsPace n bound s.outcome k × (Steps k t t' × EndsAlike s.outcome s t')))

-- the addresses at which a program may find a unit: of blocks, and behind units in them
pub data IsUnit (p : Program) : ℕ → Type 0 where
  OfBlock : (u : ℕ) → p.is_block u ≡ true → IsUnit p u
  ReachedBy : (u : ℕ) → p.is_reached u ≡ true → IsUnit p u
  Behind : (u : ℕ) → IsUnit p u → p.is_pair u ≡ false → p.falls u ≡ true → IsUnit p (u + 4)

-- they stand at their homes
abbrev pub AllAtHome : Program → Setup → ℕ → Type 0
AllAtHome p l r = (u : ℕ) → IsUnit p u → UnitAt p l r u

-- all units of a run of `n` paired steps whose code stands at home: the flat machine keeps what it does, in one or
-- two steps each
abbrev pub RunsAtHome : Type 0
RunsAtHome =
    (p : Program) (l : Setup) (r n : ℕ) (s s' : SourceState) (m : Origins) (t : State)
    → Sound p l r → AllAtHome p l r → IsUnit p s.pc → Alike p l all_live r s.pc s m t → AreMade p s m
    → at_home s.pc t.hart.pc
    → PairedSteps p n s m s' → Keeps n (n * 2) s' t
