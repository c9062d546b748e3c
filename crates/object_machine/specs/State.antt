-- The state of the machine: registers hold values, memory holds cells, and each object has cells of its own.
use Rattle.std.specs.Prelude.{ℕ, ◌==◌, if◌then◌else◌, List}
use Rattle.cell_values.specs.Cells.{put_at}
use Rattle.cell_values.specs.declared.values.Val.{Val}
use Rattle.cell_values.specs.declared.values.Val.TheVariants.{Int}
use Rattle.cell_values.specs.declared.values.Cell.{Cell}
use Rattle.object_machine.specs.declared.events.Outcome.{Outcome}
use Rattle.object_machine.specs.declared.events.Outcome.TheVariants.{Trapped, AddressFault}

abbrev pub Values : Type 0
Values = ℕ → Val

abbrev pub Cells : Type 0
Cells = ℕ → Cell

pub record SourceState : Type 0 where
  pub pc : ℕ
  pub regs : Values
  -- the cells of fixed memory by address, and those of each object by their place in it
  pub fixed : Cells
  pub cells : ℕ → Cells
  -- the input that no call has read yet, and all that was written
  pub input : List ℕ
  pub output : List ℕ
  pub outcome : Outcome

-- x0 reads 0, and writes to it are dropped
abbrev pub value : Values → ℕ → Val
value regs k = if k == 0 then Int 0 else regs k

abbrev pub with_value : Values → ℕ → Val → Values
with_value regs rd x = if rd == 0 then regs else put_at regs rd x

abbrev pub wrote : SourceState → ℕ → Val → SourceState
wrote s rd x = record s { regs = with_value s.regs rd x }

-- a step that traps or faults changes nothing but the outcome
abbrev pub trapped : SourceState → SourceState
trapped s = record s { outcome = Trapped s.pc }

abbrev pub faulted : SourceState → ℕ → SourceState
faulted s why = record s { outcome = AddressFault s.pc why }
