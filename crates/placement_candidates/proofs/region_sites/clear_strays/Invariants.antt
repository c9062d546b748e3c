use Rattle.std.proofs.Common.{◌≡◌, ℕ, ◌<◌, not, ◌&&◌, take, length}
use Rattle.std.specs.List.{list_any}
use Rattle.dataflow.specs.Exposed.{mark_at}
use Rattle.placement_candidates.specs.Found.{strays}
use Rattle.placement_candidates.proofs.region_sites.clear_strays.Given as goal

abbrev pub invariant-loop-k : goal.invariant-loop-k
invariant-loop-k l = (o : ℕ) → o < length l.fn.marks → mark_at l.marks o ≡ (mark_at l.fn.marks o && not (list_any (strays l.addresses o) (take l.k l.sites)))
