-- The regions of the code on a side of a choice.
use Rattle.std.specs.Prelude.{ℕ, Bool, true, false, List, []}
use Rattle.region_former.specs.declared.table.RegionTable.{RegionTable}

-- that of each block. Without overlay there is none
abbrev pub blocks_on : Bool → RegionTable → List ℕ
blocks_on false t = []
blocks_on true t = t.of_block.items
