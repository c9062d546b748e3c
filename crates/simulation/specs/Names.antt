-- States that name none of some objects.
use Rattle.std.specs.Prelude.{◌≡◌, ℕ, Bool, false}
use Rattle.cell_values.specs.declared.values.Val.{Val}
use Rattle.cell_values.specs.declared.values.Val.TheVariants.{Addr, Hi, Piece}
use Rattle.cell_values.specs.declared.values.Cell.{Cell}
use Rattle.cell_values.specs.declared.values.Cell.TheVariants.{Part}
use Rattle.object_machine.specs.State.{SourceState, value}

-- a value names none of these objects
abbrev pub NamesNone : (ℕ → Bool) → Val → Type 0
NamesNone these (Addr o d) = these o ≡ false
NamesNone these (Hi o d) = these o ≡ false
NamesNone these (Piece hi o d k) = these o ≡ false
NamesNone these x = Unit {0}

-- a cell does not
abbrev pub CellNamesNone : (ℕ → Bool) → Cell → Type 0
CellNamesNone these (Part hi o d k) = these o ≡ false
CellNamesNone these c = Unit {0}

-- no register of some kind and no cell of memory names one of these objects
pub record StateNamesNone (these : ℕ → Bool) (live : ℕ → Type 0) (s : SourceState) : Type 0 where
  pub regs : (k : ℕ) → live k → NamesNone these (value s.regs k)
  pub fixed : (a : ℕ) → CellNamesNone these (s.fixed a)
  pub cells : (o i : ℕ) → CellNamesNone these (s.cells o i)
