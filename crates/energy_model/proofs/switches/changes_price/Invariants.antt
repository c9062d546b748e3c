use Rattle.std.proofs.Common.{◌≡◌, ℕ, suc, ◌*◌, ◌≤◌}
use Rattle.list_checks.specs.Sorted.{sum_below}
use Rattle.object_graph.specs.declared.parts.Graph.{Graph}
use Rattle.board_config.specs.declared.board.Board.{Board}
use Rattle.code_blocks.specs.declared.parts.Code.{Code}
use Rattle.region_former.specs.declared.table.RegionTable.{RegionTable}
use Rattle.profile_runner.specs.declared.counts.Profile.{Profile}
use Rattle.energy_model.specs.Scenes.{scene_of}
use Rattle.energy_model.specs.Overlay.{changes_from}
use Rattle.energy_model.proofs.switches.changes_price.Given as goal

pub record AreAllChanges (profile : Profile) (regions : RegionTable) (board : Board) (from total : ℕ) : Type 0 where
  pub sum : (g : Graph) (c : Code) → total ≡ sum_below (λ s. changes_from (scene_of g c regions board) profile s (suc regions.count)) from
  pub small : total ≤ from * 10625324586456701730816

abbrev pub invariant-loop-from : goal.invariant-loop-from
invariant-loop-from l = AreAllChanges l.profile l.regions l.board l.from l.total
