-- The regions of a file's program on a board.
use Rattle.std.specs.Prelude.{◌≡◌, ◌↔◌, ℕ, ◌<◌, ◌≤◌, Bool, true, false, List, length, slice_index_or}
use Rattle.elf_reader.specs.File.{PlainView}
use Rattle.board_config.specs.declared.board.Board.{Board}
use Rattle.code_blocks.specs.declared.parts.Code.{Code}
use Rattle.dataflow.specs.Live.{LiveAt, Live}
use Rattle.region_former.specs.Regions.{IsFormed}
use Rattle.region_former.specs.declared.table.RegionTable.{RegionTable}

-- one of the registers x5 to x31 is dead where block `b` begins: nothing there uses it before it is defined
pub record HasDead (c : Code) (b : ℕ) : Type 0 where
  pub register : ℕ
  pub from : 5 ≤ register
  pub below : register < 32
  pub dead : LiveAt c register b 0 → ⊥

-- the same where the block at `leader` begins
pub record HasDeadAt (c : Code) (leader : ℕ) : Type 0 where
  pub register : ℕ
  pub from : 5 ≤ register
  pub below : register < 32
  pub dead : Live c leader register → ⊥

-- a list that tells so of each block
pub record ReportsDead (c : Code) (has_dead : List Bool) : Type 0 where
  pub one_each : length has_dead ≡ length c.blocks.items
  pub each : (b : ℕ) → b < length c.blocks.items → (slice_index_or has_dead b false ≡ true) ↔ HasDead c b

-- The table has the regions of the program, of which one becomes none where one of the blocks by which control enters
-- it has no dead register, or can't be entered through a stub for another reason.
pub record AreRegions (v : PlainView) (c : Code) (board : Board) (t : RegionTable) : Type 0 where
  pub has_dead : List Bool
  pub tells_dead : ReportsDead c has_dead
  pub is_formed : IsFormed v c board has_dead t
