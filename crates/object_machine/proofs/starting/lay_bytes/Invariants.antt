use Rattle.std.proofs.Common.{◌≡◌, take}
use Rattle.cell_values.specs.Cells.{put_cells}
use Rattle.cell_values.specs.Stored.{cells_of}
use Rattle.object_machine.specs.Machine.{byte_cells}
use Rattle.object_machine.proofs.starting.lay_bytes.Given as goal

-- the first bytes were put
abbrev pub invariant-loop-i : goal.invariant-loop-i
invariant-loop-i l = cells_of l.memory ≡ put_cells (cells_of l.initial.memory) l.at (byte_cells (take l.i l.bytes))
