-- What groups of keys hold.
use Rattle.std.specs.Prelude.{◌≡◌, ℕ, ◌+◌, List, Option, Ok, string_bytes}
use Rattle.toml.specs.Data.{Members}
use Rattle.board_config.specs.Keys.{main_of, spm_of, patch_of, areas_of, fix_of, bss_of, grain_of, fence_i_of, price_at, driver_of, regions_of, steps_of, nodes_of, twins_of}
use Rattle.board_config.specs.Board.{plain_texts, plain_regions}
use Rattle.board_config.specs.declared.memory_keys.MemoryKeys.{MemoryKeys}
use Rattle.board_config.specs.declared.moving_keys.MovingKeys.{MovingKeys}
use Rattle.board_config.specs.declared.price_keys.AccessPrices.{AccessPrices}
use Rattle.board_config.specs.declared.work_keys.WorkKeys.{WorkKeys}

-- keys 1 to 4
pub record HasMemory (table : Members) (keys : MemoryKeys) : Type 0 where
  pub main : main_of table ≡ Ok keys.main
  pub spm : spm_of table ≡ Ok keys.spm
  pub patch : patch_of table ≡ Ok keys.patch
  pub areas : areas_of table ≡ Ok keys.areas.items

-- keys 6 to 9
pub record HasMoving (table : Members) (keys : MovingKeys) : Type 0 where
  pub fix : fix_of table ≡ Ok (plain_texts keys.fix)
  pub bss_movable : bss_of table ≡ Ok keys.bss_movable
  pub grain : grain_of table ≡ Ok keys.grain
  pub fence_i : fence_i_of table ≡ Ok keys.fence_i

-- the prices of a fetch, a read and a write, whose keys follow each other from `first` on
pub record AreAccessPrices (first default : ℕ) (fetch_name read_name write_name : List ℕ) (given : Option Members) (prices : AccessPrices) : Type 0 where
  pub fetch : price_at first default fetch_name given ≡ Ok prices.fetch
  pub read : price_at (first + 1) default read_name given ≡ Ok prices.read
  pub write : price_at (first + 2) default write_name given ≡ Ok prices.write

-- keys 16 to 20
pub record HasWork (table : Members) (keys : WorkKeys) : Type 0 where
  pub driver : driver_of table ≡ Ok (string_bytes keys.driver)
  pub regions : regions_of table ≡ Ok (plain_regions keys.regions)
  pub steps : steps_of table ≡ Ok keys.steps
  pub nodes : nodes_of table ≡ Ok keys.nodes
  pub twins : twins_of table ≡ Ok keys.twins
