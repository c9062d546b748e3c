use Rattle.std.proofs.Common.{◌≡◌, drop, map}
use Rattle.elf_reader.specs.File.{plain_segment}
use Rattle.elf_reader.specs.Image.{image_of}
use Rattle.cell_values.specs.Stored.{cells_of}
use Rattle.object_machine.specs.Starting.{plain_cells}
use Rattle.object_machine.proofs.starting.lay_segments.Given as goal

-- the segments from k on were laid
abbrev pub invariant-loop-k : goal.invariant-loop-k
invariant-loop-k l = cells_of l.memory ≡ plain_cells (image_of (map plain_segment (drop l.k l.segments)))
