-- Which states of the flat machine are like a state of the machine whose objects have no addresses.
use Rattle.std.specs.Prelude.{◌≡◌, ℕ, ◌+◌, ◌<◌, ◌≤◌, true, List, length}
use Rattle.rv32im.specs.Acts.{register}
use Rattle.flat_machine.specs.State.{State}
use Rattle.flat_machine.specs.Runs.{Does}
use Rattle.flat_machine.specs.Sizes.{HasWords}
use Rattle.flat_machine.specs.declared.events.FlatEvent.{FlatEvent}
use Rattle.flat_machine.specs.declared.events.FlatOutcome as flat
use Rattle.cell_values.specs.Laws.{HoldsWord}
use Rattle.cell_values.specs.Stands.{Stands, CellStands, CellHoldsWord}
use Rattle.object_machine.specs.declared.events.Outcome.{Outcome}
use Rattle.object_machine.specs.declared.events.Outcome.TheVariants.{GoesOn, Exited, Trapped, AddressFault}
use Rattle.object_machine.specs.Program.{Program}
use Rattle.object_machine.specs.State.{SourceState, value}
use Rattle.object_machine.specs.Paired.{Origins}
use Rattle.simulation.specs.Setups.{Setup}

-- while region `r` is current and the unit at `u` is next, `t` is like `s`, whose upper parts have the
-- origins `m`: live registers, fixed memory and objects hold words that the values may be, what stands still
-- is as it was, and both have the same input left and wrote the same
pub record Alike (p : Program) (l : Setup) (live : ℕ → ℕ → Type 0) (r u : ℕ) (s : SourceState) (m : Origins) (t : State) : Type 0 where
  pub regs : (k : ℕ) → live u k → Stands p.objects (l.place r) (l.upper r) (m.regs k) (value s.regs k) (register t.hart.regs k)
  pub values : (k : ℕ) → live u k → HoldsWord (value s.regs k)
  pub fixed : (a : ℕ) → p.is_fixed a ≡ true → CellStands (l.place r) (l.upper r) (m.fixed a) (s.fixed a) (t.hart.mem a)
  pub cells : (o i : ℕ) → i < p.objects.size o → CellStands (l.place r) (l.upper r) (m.cells o i) (s.cells o i) (t.hart.mem (l.place r o + i))
  pub fixed_words : (a : ℕ) → p.is_fixed a ≡ true → CellHoldsWord (s.fixed a)
  pub cell_words : (o i : ℕ) → i < p.objects.size o → CellHoldsWord (s.cells o i)
  pub still : (a : ℕ) → l.is_still r a ≡ true → t.hart.mem a ≡ l.still r a
  pub map : t.map ≡ l.map
  pub going : t.outcome ≡ flat.TheVariants.GoesOn
  pub source_going : s.outcome ≡ GoesOn
  pub words : HasWords t
  pub input : t.input ≡ s.input
  pub output : t.output ≡ s.output

-- how the flat machine is behind a unit, by the outcome of the other: where that goes on, they are alike and
-- the flat pc is where it may arrive at the next unit; where it ended, the flat machine ended alike; a fault
-- promises nothing
abbrev pub After : Outcome → Program → Setup → (ℕ → ℕ → Type 0) → (ℕ → ℕ → Type 0) → ℕ → SourceState → Origins → State → Type 0
After GoesOn p l live arrive r s m t = Alike p l live r s.pc s m t × arrive s.pc t.hart.pc
After (Exited code) p l live arrive r s m t = (t.outcome ≡ flat.TheVariants.Exited code) × (t.output ≡ s.output)
After (Trapped pc) p l live arrive r s m t =
    ((a : ℕ) × (t.outcome ≡ flat.TheVariants.Trapped a)) × (t.output ≡ s.output)
After (AddressFault pc why) p l live arrive r s m t = Unit {0}

-- So many steps of the flat machine keep pace with `n` of the other, which came to an outcome: they are at most
-- `bound`, and where that goes on, no fewer than `n`. So a machine that goes on forever is kept by one that does.
pub record KeepsPace (n bound : ℕ) (outcome : Outcome) (steps : ℕ) : Type 0 where
  pub least : outcome ≡ GoesOn → n ≤ steps
  pub most : steps ≤ bound

-- steps of the flat machine that keep pace with one lead from `t` to such a state
abbrev pub Leads : ℕ → Program → Setup → (ℕ → ℕ → Type 0) → (ℕ → ℕ → Type 0) → ℕ → SourceState → Origins → State → Type 0
Leads bound p l live arrive r s m t =
    (es : List FlatEvent) × ((t' : State) × (Does es t t' × (KeepsPace 1 bound s.outcome (length es) × After s.outcome p l live arrive r s m t')))

-- what is told of the events that lead to an outcome; a fault promises nothing
abbrev pub Tells : Outcome → (List FlatEvent → Type 0) → List FlatEvent → Type 0
Tells (AddressFault pc why) tells es = Unit {0}
Tells outcome tells es = tells es

-- steps of the flat machine lead from `t` to such a state, and of their events this is told
abbrev pub LeadsTold : (List FlatEvent → Type 0) → Program → Setup → (ℕ → ℕ → Type 0) → (ℕ → ℕ → Type 0) → ℕ → SourceState → Origins → State → Type 0
LeadsTold tells p l live arrive r s m t =
    (es : List FlatEvent) × ((t' : State) × (Does es t t' × (Tells s.outcome tells es × After s.outcome p l live arrive r s m t')))
