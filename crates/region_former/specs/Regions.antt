-- The regions of a program, as a table by blocks.
use Rattle.std.specs.Prelude.{◌≡◌, ℕ, ◌<◌, Bool, false, List, [], ◌∷◌, length, min, slice_index_or, Option, Some, None, string_bytes, if◌then◌else◌}
use Rattle.elf_reader.specs.File.{PlainView}
use Rattle.board_config.specs.Board.{plain_regions}
use Rattle.board_config.specs.declared.board.Board.{Board}
use Rattle.code_blocks.specs.declared.parts.Code.{Code}
use Rattle.region_former.specs.Naming.{function_named}
use Rattle.region_former.specs.Faults.{Fault}
use Rattle.region_former.specs.Listing.{listed_region, listing_fault}
use Rattle.region_former.specs.Flow.{block_count}
use Rattle.code_blocks.specs.Leads.{owner_at}
use Rattle.region_former.specs.Reaching.{is_root, enters, root_count, IsReached}
use Rattle.region_former.specs.Borders.{region_in, is_border, becomes_none}
use Rattle.region_former.specs.declared.table.RegionTable.{RegionTable}

-- the function that the board names as the driver
abbrev pub driver_of : PlainView → Code → Board → Option ℕ
driver_of v c board = function_named v c.functions.items (string_bytes board.driver)

-- how many regions there are: as many as the board lists; where it lists none, a region for each root, up to 8
abbrev pub count_by : PlainView → Code → Board → List (List (List ℕ)) → ℕ
count_by v c board [] = min (root_count c (driver_of v c board)) 8
count_by v c board (list ∷ lists) = length (list ∷ lists)

-- the region of function `f`: the list that has a name of it; where the board lists none, that of the one root
-- that leads to it
abbrev pub IsRegionBy : PlainView → Code → Board → List (List (List ℕ)) → ℕ → ℕ → Type 0
IsRegionBy v c board [] f r =
    IsReached (is_root c (driver_of v c board)) (enters c (driver_of v c board)) f r
IsRegionBy v c board (list ∷ lists) f r =
    r ≡ listed_region v c.functions.items (list ∷ lists) f (length (list ∷ lists))

abbrev pub IsFunctionRegion : PlainView → Code → Board → ℕ → ℕ → Type 0
IsFunctionRegion v c board f r = IsRegionBy v c board (plain_regions board.regions) f r

-- the region of a block is that of its function; none where it has no function
abbrev pub IsRegionOf : PlainView → Code → Board → Option ℕ → ℕ → Type 0
IsRegionOf v c board None r = r ≡ 0
IsRegionOf v c board (Some f) r = IsFunctionRegion v c board f r

-- the regions of all blocks, before any region becomes none
pub record AreFormed (v : PlainView) (c : Code) (board : Board) (regions : List ℕ) : Type 0 where
  pub one_each : length regions ≡ block_count c
  pub of_block : (b : ℕ) → b < block_count c → IsRegionOf v c board (owner_at c b) (region_in regions b)

-- the table: each block has its region, unless that becomes none; the others keep their numbers, and their
-- count stays. A block whose region became none is no border entry, since it has none
pub record IsFormed (v : PlainView) (c : Code) (board : Board) (has_dead : List Bool) (t : RegionTable) : Type 0 where
  pub formed : List ℕ
  pub are_formed : AreFormed v c board formed
  pub count : t.count ≡ count_by v c board (plain_regions board.regions)
  pub one_each : length t.of_block.items ≡ block_count c
  pub of_block : (b : ℕ) → b < block_count c
      → region_in t.of_block.items b
      ≡ (if becomes_none c has_dead formed (region_in formed b) then 0 else region_in formed b)
  pub border : (b : ℕ) → b < block_count c → slice_index_or t.border.items b false ≡ is_border c t.of_block.items b

-- the first listed name that stands for no function, or for one that was listed before
abbrev pub region_fault : PlainView → Code → Board → Option Fault
region_fault v c board = listing_fault v c.functions.items (plain_regions board.regions)
