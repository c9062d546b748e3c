-- Regions by functions, from which those of blocks are made.
use Rattle.std.specs.Prelude.{◌≡◌, ℕ, ◌<◌, ◌≤◌, List, length, slice_index_or, Option, Some, None}
use Rattle.elf_reader.specs.File.{PlainView}
use Rattle.board_config.specs.Board.{plain_regions}
use Rattle.board_config.specs.declared.board.Board.{Board}
use Rattle.code_blocks.specs.declared.parts.Code.{Code}
use Rattle.region_former.specs.Regions.{count_by, IsFunctionRegion}
use Rattle.region_former.specs.declared.reaching.FunctionRegions.{FunctionRegions}

-- the region of a block of this function, by the regions of functions
abbrev pub region_for : List ℕ → Option ℕ → ℕ
region_for regions None = 0
region_for regions (Some f) = slice_index_or regions f 0

-- the regions of the functions of a program, at most `count`
pub record AreOfFunctions (v : PlainView) (c : Code) (board : Board) (made : FunctionRegions) : Type 0 where
  pub count_is : made.count ≡ count_by v c board (plain_regions board.regions)
  pub few : made.count ≤ 8
  pub one_each : length made.of_function.items ≡ length c.functions.items
  pub within : (f : ℕ) → f < length c.functions.items → slice_index_or made.of_function.items f 0 ≤ made.count
  pub regions : (f : ℕ) → f < length c.functions.items → IsFunctionRegion v c board f (slice_index_or made.of_function.items f 0)
