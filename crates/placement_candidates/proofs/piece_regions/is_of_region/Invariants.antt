use Rattle.std.proofs.Common.{◌≡◌, ℕ, ◌<◌, ◌≤◌}
use Rattle.dataflow.specs.Overlaid.{region_in}
use Rattle.placement_candidates.proofs.piece_regions.is_of_region.Given as goal

abbrev pub invariant-loop-b : goal.invariant-loop-b
invariant-loop-b l = (k : ℕ) → l.piece.first ≤ k → k < l.b → region_in l.regions.of_block.items k ≡ l.r
