use Rattle.std.proofs.Common.{◌≡◌, map, take}
use Rattle.placement_candidates.specs.OverlayCounted.{piece_region}
use Rattle.placement_candidates.proofs.piece_regions.piece_regions.Given as goal

abbrev pub invariant-loop-k : goal.invariant-loop-k
invariant-loop-k l = l.table.items ≡ map (piece_region l.m.regions.now.of_block.items) (take l.k l.m.pieces.now)
