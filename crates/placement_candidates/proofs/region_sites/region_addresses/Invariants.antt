use Rattle.std.proofs.Common.{ℕ}
use Rattle.std.specs.Prelude.{◌↔◌}
use Rattle.placement_candidates.specs.Found.{HasAddress, StandsInRegion}
use Rattle.placement_candidates.proofs.region_sites.region_addresses.Given as goal

abbrev pub invariant-loop-b : goal.invariant-loop-b
invariant-loop-b l = (a : ℕ) → HasAddress l.addresses.items a ↔ StandsInRegion l.code l.regions.of_block.items l.b a
