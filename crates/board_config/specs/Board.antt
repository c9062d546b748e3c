-- The board that a text describes, and what holds of every board.
use Rattle.std.specs.Prelude.{codes, ◌≡◌, ◌⊎◌, ℕ, ◌+◌, ◌%◌, ◌≤◌, List, ◌∷◌, map, length, All, Option, Some, None, Ok, String, Vec, string_bytes}
use Rattle.std.specs.declared.alloc.Global.{Global}
use Rattle.toml.specs.Data.{Members}
use Rattle.board_config.specs.declared.board.Board.{Board}
use Rattle.board_config.specs.declared.board.Prices.{Prices}
use Rattle.board_config.specs.declared.board.Range.{Range}
use Rattle.board_config.specs.Keys.{main_of, spm_of, patch_of, areas_of, prices_in, fix_of, bss_of, grain_of, fence_i_of, price_at, driver_of, regions_of, steps_of, nodes_of, twins_of, price_table_fault, unknown_fault, table_of}

abbrev pub plain_texts : Vec (String Global) Global → List (List ℕ)
plain_texts texts = map string_bytes texts.items

abbrev pub plain_regions : Vec (Vec (String Global) Global) Global → List (List (List ℕ))
plain_regions regions = map plain_texts regions.items

-- the prices that a table of prices gives, or their defaults
pub record ArePrices (given : Option Members) (prices : Prices) : Type 0 where
  pub main_fetch : price_at 10 10 (codes "main_fetch") given ≡ Ok prices.main_fetch
  pub main_read : price_at 11 10 (codes "main_read") given ≡ Ok prices.main_read
  pub main_write : price_at 12 10 (codes "main_write") given ≡ Ok prices.main_write
  pub spm_fetch : price_at 13 2 (codes "spm_fetch") given ≡ Ok prices.spm_fetch
  pub spm_read : price_at 14 2 (codes "spm_read") given ≡ Ok prices.spm_read
  pub spm_write : price_at 15 2 (codes "spm_write") given ≡ Ok prices.spm_write

-- each key of the table has a value, and the board has these values
pub record HasKeys (table : Members) (board : Board) : Type 0 where
  pub main : main_of table ≡ Ok board.main
  pub spm : spm_of table ≡ Ok board.spm
  pub patch : patch_of table ≡ Ok board.patch
  pub areas : areas_of table ≡ Ok board.areas.items
  pub price : price_table_fault table ≡ None
  pub prices : ArePrices (prices_in table) board.prices
  pub fix : fix_of table ≡ Ok (plain_texts board.fix)
  pub bss_movable : bss_of table ≡ Ok board.bss_movable
  pub grain : grain_of table ≡ Ok board.grain
  pub fence_i : fence_i_of table ≡ Ok board.fence_i
  pub driver : driver_of table ≡ Ok (string_bytes board.driver)
  pub regions : regions_of table ≡ Ok (plain_regions board.regions)
  pub steps : steps_of table ≡ Ok board.steps
  pub nodes : nodes_of table ≡ Ok board.nodes
  pub twins : twins_of table ≡ Ok board.twins
  pub no_more : unknown_fault table ≡ None

-- the text is a table with the values of this board
pub record IsBoard (text : List ℕ) (board : Board) : Type 0 where
  pub table : Members
  pub is_table : table_of text ≡ Some table
  pub keys : HasKeys table board

-- the mapped memory
abbrev pub mapped_ranges : Board → List Range
mapped_ranges board = board.main ∷ board.spm ∷ board.patch ∷ board.areas.items

-- a range is not empty, and the address behind it is at most 2 ^ 32 - 1
pub record IsLawfulRange (range : Range) : Type 0 where
  pub some : 1 ≤ range.size
  pub within : range.base + range.size ≤ 4294967295

-- base and size are multiples of the unit, and the size is at most `most`
pub record IsAligned (unit most : ℕ) (range : Range) : Type 0 where
  pub base : range.base % unit ≡ 0
  pub size : range.size % unit ≡ 0
  pub most_size : range.size ≤ most

-- no price is over 10,000
pub record AreLawfulPrices (prices : Prices) : Type 0 where
  pub main_fetch : prices.main_fetch ≤ 10000
  pub main_read : prices.main_read ≤ 10000
  pub main_write : prices.main_write ≤ 10000
  pub spm_fetch : prices.spm_fetch ≤ 10000
  pub spm_read : prices.spm_read ≤ 10000
  pub spm_write : prices.spm_write ≤ 10000

abbrev pub IsGrain : ℕ → Type 0
IsGrain grain = (grain ≡ 16) ⊎ ((grain ≡ 32) ⊎ (grain ≡ 64))

-- what holds of each board that is read
pub record IsLawful (board : Board) : Type 0 where
  pub ranges : All IsLawfulRange (mapped_ranges board)
  pub spm : IsAligned board.grain 16777216 board.spm
  pub patch : IsAligned 64 1048576 board.patch
  pub few_areas : length board.areas.items ≤ 16
  pub prices : AreLawfulPrices board.prices
  pub grain : IsGrain board.grain
  pub few_regions : length board.regions.items ≤ 8
  pub least_steps : 1 ≤ board.steps
  pub most_steps : board.steps ≤ 1000000000
  pub least_nodes : 1 ≤ board.nodes
  pub most_nodes : board.nodes ≤ 10000000
