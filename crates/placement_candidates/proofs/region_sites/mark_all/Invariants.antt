use Rattle.std.proofs.Common.{◌≡◌, ℕ, ◌<◌, ◌||◌, take, length}
use Rattle.std.specs.List.{list_any}
use Rattle.dataflow.specs.Overlaid.{site_means}
use Rattle.dataflow.specs.Exposed.{mark_at}
use Rattle.placement_candidates.proofs.region_sites.mark_all.Given as goal

abbrev pub invariant-loop-k : goal.invariant-loop-k
invariant-loop-k l = (o : ℕ) → o < length l.fn.marks → mark_at l.marks o ≡ (mark_at l.fn.marks o || list_any (site_means o) (take l.k l.sites))
