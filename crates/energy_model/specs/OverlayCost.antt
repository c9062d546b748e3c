-- What overlay costs where nothing is taken, and what is asked of the tables of a profile, so that it can be counted.
use Rattle.std.specs.Prelude.{◌≡◌, ℕ, suc, ◌+◌, ◌-◌, ◌*◌, ◌<◌, ◌≤◌, List, length, slice_index_or, if◌then◌else◌}
use Rattle.list_checks.specs.Sorted.{sum_below}
use Rattle.board_config.specs.declared.board.Board.{Board}
use Rattle.object_graph.specs.declared.parts.Graph.{Graph}
use Rattle.code_blocks.specs.declared.parts.Code.{Code}
use Rattle.region_former.specs.declared.table.RegionTable.{RegionTable}
use Rattle.profile_runner.specs.Counts.{plain_rows, row_of, entry}
use Rattle.profile_runner.specs.declared.counts.Profile.{Profile}
use Rattle.block_splitter.specs.declared.block_range.BlockRange.{BlockRange}
use Rattle.energy_model.specs.Copied.{arrivals_in, stayed_to, pending_to}
use Rattle.energy_model.specs.Overlay.{checks_in, displaced_run, first_words, changes_price, checks_price, is_entered}
use Rattle.energy_model.specs.Scenes.{scene_of}

-- ---- conditions

-- a run has no more steps, and so no count passes this; nor do the changes to a region, or from it, together
abbrev pub most_steps : ℕ
most_steps = 1000000000

-- a table of so many rows and columns
pub record IsSmallTable (rows : List (List ℕ)) (height width : ℕ) : Type 0 where
  pub height_is : length rows ≡ height
  pub widths : (j : ℕ) → j < height → length (row_of rows j) ≡ width
  pub small : (j k : ℕ) → j < height → k < width → entry rows j k ≤ most_steps

pub record IsSmallList (counts : List ℕ) (size : ℕ) : Type 0 where
  pub size_is : length counts ≡ size
  pub small : (k : ℕ) → k < size → slice_index_or counts k 0 ≤ most_steps

-- what regions, accesses and their changes are counted from: a check is made as often as a block began by which control
-- enters a region, and the first unit there has two words at most at home
pub record CountsOverlay (c : Code) (t : RegionTable) (g : Graph) (q : Profile) : Type 0 where
  pub borders : length t.border.items ≡ length c.blocks.items
  pub few : sum_below (arrivals_in q) (length c.blocks.items) ≤ most_steps
  pub enough : first_words c q t.border.items ≤ 2 * checks_in q t.border.items (length c.blocks.items)
  pub came : (range : BlockRange) →
      stayed_to c q range (is_entered t.border.items range)
      ≤ sum_below (λ b. if is_entered t.border.items range b then arrivals_in q b else 0) (length c.blocks.items) + pending_to c q range (is_entered t.border.items range)
  pub reads : IsSmallTable (plain_rows q.reads.items) (length g.objects.items) (suc t.count)
  pub writes : IsSmallTable (plain_rows q.writes.items) (length g.objects.items) (suc t.count)
  pub switches : IsSmallTable (plain_rows q.switches.items) (suc t.count) (suc t.count)
  pub enters : IsSmallList q.enters.items (suc t.count)
  pub leaves : IsSmallList q.leaves.items (suc t.count)

-- ---- the cost

-- checks, first units that are displaced, less what these cost at home, and changes of the current region
abbrev pub overlay_cost : Code → Graph → RegionTable → Board → Profile → ℕ
overlay_cost c g t board q =
    checks_price board.prices q t.border.items (length c.blocks.items)
    + displaced_run c g q t.border.items * board.prices.main_fetch
    + changes_price (scene_of g c t board) q
    - first_words c q t.border.items * board.prices.main_fetch
