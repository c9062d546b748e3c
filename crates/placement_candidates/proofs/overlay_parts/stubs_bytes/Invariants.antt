use Rattle.std.proofs.Common.{◌≡◌, ℕ, ◌*◌, ◌≤◌}
use Rattle.std.specs.List.{sum_by}
use Rattle.placement_programme.specs.Rows.{checking_stub_bytes}
use Rattle.placement_candidates.specs.OverlayCounted.{scene_in}
use Rattle.placement_candidates.specs.Overlaid.{displaced_below}
use Rattle.placement_candidates.proofs.overlay_parts.stubs_bytes.Given as goal

pub record IsSum (total k sum : ℕ) : Type 0 where
  pub is : total ≡ sum
  pub small : total ≤ k * 100

abbrev pub invariant-loop-b : goal.invariant-loop-b
invariant-loop-b l = IsSum l.total l.b (sum_by checking_stub_bytes (displaced_below (scene_in l.m) l.b))
