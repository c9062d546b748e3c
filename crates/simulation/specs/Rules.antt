-- What the steps of both machines rest on: which registers matter, and what stands at the homes of units.
use Rattle.std.specs.Prelude.{◌≡◌, ℕ, ◌+◌, ◌<◌, true, false, Contains, Option, Some}
use Rattle.rv32im.specs.Acts.{used, defined}
use Rattle.rv32im.specs.Fields.{rd_of}
use Rattle.rv32im.specs.declared.instructions.Instr.{Instr}
use Rattle.object_machine.specs.declared.events.Outcome.TheVariants.{GoesOn}
use Rattle.object_machine.specs.Program.{Program}
use Rattle.object_machine.specs.State.{SourceState}
use Rattle.object_machine.specs.Step.{Reads, next_state}
use Rattle.simulation.specs.Setups.{Setup}
use Rattle.simulation.specs.Units.{OneWordAt, PairAt}

-- the registers that a unit reads matter at it; what matters behind it and isn't written by it matters at it.
-- A call of two words reads none and writes one
pub record LiveRules (p : Program) (live : ℕ → ℕ → Type 0) : Type 0 where
  pub uses : (u k : ℕ) (i : Instr) → p.is_pair u ≡ false → Reads (p.word u) (Some i) → Contains (used i) k → live u k
  pub keeps : (s : SourceState) (i : Instr) (k : ℕ) → s.outcome ≡ GoesOn → p.is_pair s.pc ≡ false → Reads (p.word s.pc) (Some i)
      → (next_state p s (Some i)).outcome ≡ GoesOn → live (next_state p s (Some i)).pc k → (Contains (defined i) k → ⊥) → live s.pc k
  pub passes : (s : SourceState) (read : Option Instr) (k : ℕ) → s.outcome ≡ GoesOn → p.is_pair s.pc ≡ true
      → (next_state p s read).outcome ≡ GoesOn → live (next_state p s read).pc k → (k ≡ rd_of (p.word s.pc) → ⊥) → live s.pc k

-- where all registers matter
abbrev pub all_live : ℕ → ℕ → Type 0
all_live u k = Unit {0}

-- what stands at the home of the unit at `u`, by what its first word means; its first word ends below 2 ^ 32
pub record UnitAt (p : Program) (l : Setup) (r u : ℕ) : Type 0 where
  pub one : (read : Option Instr) → p.is_pair u ≡ false → Reads (p.word u) read → OneWordAt p l r u read
  pub pair : p.is_pair u ≡ true → PairAt p l r u
  pub below : u + 4 < 4294967296
