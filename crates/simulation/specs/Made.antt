-- The AUIPC that is kept beside an upper part made this very part: so it is at the start, and after each step.
use Rattle.std.specs.Prelude.{◌≡◌, ℕ, true, Some}
use Rattle.rv32im.specs.Table.{Means}
use Rattle.rv32im.specs.declared.instructions.Instr.TheVariants.{Auipc}
use Rattle.cell_values.specs.declared.values.Val.{Val}
use Rattle.cell_values.specs.declared.values.Val.TheVariants.{Hi, Piece}
use Rattle.cell_values.specs.declared.values.Cell.{Cell}
use Rattle.cell_values.specs.declared.values.Cell.TheVariants.{Part}
use Rattle.cell_values.specs.Origins.{Origin, ByLui, ByAuipc, Mixed}
use Rattle.object_machine.specs.Program.{Program}
use Rattle.object_machine.specs.State.{SourceState, value}
use Rattle.object_machine.specs.Paired.{Origins}

-- the word at an address is an AUIPC
abbrev pub IsAuipcAt : Program → ℕ → Type 0
IsAuipcAt p a = (rd : ℕ) × ((n : ℕ) × Means (p.word a) (Auipc rd n))

-- the AUIPC there is a site of the address
abbrev pub IsAuipcOf : Program → ℕ → ℕ → ℕ → Type 0
IsAuipcOf p o d a = (p.site a ≡ Some (record { object = o; offset = d })) × IsAuipcAt p a

-- it made the part, or one of several that were put together
abbrev pub MakesPart : Program → Origin → ℕ → ℕ → Type 0
MakesPart p ByLui o d = Unit {0}
MakesPart p (ByAuipc a) o d = IsAuipcOf p o d a
MakesPart p Mixed o d = (a : ℕ) × IsAuipcOf p o d a

abbrev pub IsMade : Program → Origin → Val → Type 0
IsMade p origin (Hi o d) = MakesPart p origin o d
IsMade p origin (Piece true o d k) = MakesPart p origin o d
IsMade p origin x = Unit {0}

abbrev pub CellIsMade : Program → Origin → Cell → Type 0
CellIsMade p origin (Part true o d k) = MakesPart p origin o d
CellIsMade p origin c = Unit {0}

-- in registers and in memory
pub record AreMade (p : Program) (s : SourceState) (m : Origins) : Type 0 where
  pub regs : (k : ℕ) → IsMade p (m.regs k) (value s.regs k)
  pub fixed : (a : ℕ) → CellIsMade p (m.fixed a) (s.fixed a)
  pub cells : (o i : ℕ) → CellIsMade p (m.cells o i) (s.cells o i)
