-- Of which objects addresses stand in registers and in memory.
use Rattle.std.specs.Prelude.{ℕ}
use Rattle.cell_values.specs.declared.values.Val.{Val}
use Rattle.cell_values.specs.declared.values.Val.TheVariants.{Addr, Hi, Piece}
use Rattle.cell_values.specs.declared.values.Cell.{Cell}
use Rattle.cell_values.specs.declared.values.Cell.TheVariants.{Part}
use Rattle.object_machine.specs.State.{SourceState, value}

-- ---- objects whose addresses may be somewhere

-- a value has an address or its upper part only of an object that may be there. A byte of an address comes out of
-- memory, so its object is one that escapes
abbrev pub ValueIsHeld : (ℕ → Type 0) → (ℕ → Type 0) → Val → Type 0
ValueIsHeld may escapes (Addr o d) = may o
ValueIsHeld may escapes (Hi o d) = may o
ValueIsHeld may escapes (Piece hi o d k) = escapes o
ValueIsHeld may escapes x = Unit {0}

-- a cell has a byte of an address only of an object that escapes
abbrev pub CellIsHeld : (ℕ → Type 0) → Cell → Type 0
CellIsHeld escapes (Part hi o d k) = escapes o
CellIsHeld escapes c = Unit {0}

-- all registers hold addresses only of objects that each of them may hold, and memory of those that escape
pub record AreHeld (may : ℕ → ℕ → Type 0) (escapes : ℕ → Type 0) (s : SourceState) : Type 0 where
  pub regs : (k : ℕ) → ValueIsHeld (may k) escapes (value s.regs k)
  pub fixed : (a : ℕ) → CellIsHeld escapes (s.fixed a)
  pub cells : (o i : ℕ) → CellIsHeld escapes (s.cells o i)
