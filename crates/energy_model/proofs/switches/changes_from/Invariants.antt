use Rattle.std.proofs.Common.{◌≡◌, ℕ, ◌*◌, ◌≤◌}
use Rattle.object_graph.specs.declared.parts.Graph.{Graph}
use Rattle.board_config.specs.declared.board.Board.{Board}
use Rattle.code_blocks.specs.declared.parts.Code.{Code}
use Rattle.region_former.specs.declared.table.RegionTable.{RegionTable}
use Rattle.profile_runner.specs.declared.counts.Profile.{Profile}
use Rattle.energy_model.specs.Scenes.{scene_of}
use Rattle.energy_model.specs.Overlay.{changes_from}
use Rattle.energy_model.proofs.switches.changes_from.Given as goal

pub record AreChanges (profile : Profile) (regions : RegionTable) (board : Board) (from to total : ℕ) : Type 0 where
  pub sum : (g : Graph) (c : Code) → total ≡ changes_from (scene_of g c regions board) profile from to
  pub small : total ≤ to * 1180591620717411303424

abbrev pub invariant-loop-to : goal.invariant-loop-to
invariant-loop-to l = AreChanges l.profile l.regions l.board l.from l.to l.total
