use Rattle.std.proofs.Common.{◌≡◌, drop}
use Rattle.rv32im.specs.Memory.{Memory}
use Rattle.cell_values.specs.Stored.{cells_of}
use Rattle.object_machine.specs.Start.{first_cell}
use Rattle.object_machine.specs.Starting.{plain_cells}
use Rattle.object_machine.proofs.starting.lay_words.Given as goal

-- the words from k on were put
abbrev pub invariant-loop-k : goal.invariant-loop-k
invariant-loop-k l = (image : Memory) → cells_of l.initial.memory ≡ plain_cells image → cells_of l.memory ≡ first_cell image (drop l.k l.words)
