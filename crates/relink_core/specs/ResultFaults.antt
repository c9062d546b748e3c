-- What the file of a result may be refused for.
use Rattle.std.specs.Prelude.{◌≡◌, ℕ, List, Option, Some, None}
use Rattle.elf_reader.specs.Faults.{first_fault}
use Rattle.elf_reader.specs.declared.fault.ElfFault.{ElfFault}
use Rattle.elf_reader.specs.declared.fault.ElfFault.TheVariants.{OverLimit}
use Rattle.board_config.specs.declared.board.Board.{Board}
use Rattle.object_graph.specs.declared.parts.Graph.{Graph}
use Rattle.code_blocks.specs.declared.parts.Code.{Code}
use Rattle.region_former.specs.declared.table.RegionTable.{RegionTable}
use Rattle.relink_core.specs.Placed.{Taken, Realises}

-- there is no fault, or it is one of size: the file is too long, or its segments take too much memory
pub data IsOfSize (fault : Option ElfFault) : Type 0 where
  no_fault : fault ≡ None → IsOfSize fault
  too_long : (bytes : ℕ) → fault ≡ Some (OverLimit 1 bytes) → IsOfSize fault
  too_large : (bytes : ℕ) → fault ≡ Some (OverLimit 4 bytes) → IsOfSize fault

-- a result of a file without a fault is read, but for its size
abbrev pub ResultsAreRead : Type 0
ResultsAreRead =
    (file out : List ℕ) (board : Board) (g : Graph) (c : Code) (t : RegionTable) (taken : Taken) → first_fault file ≡ None
    → Realises file board g c t taken out → IsOfSize (first_fault out)
