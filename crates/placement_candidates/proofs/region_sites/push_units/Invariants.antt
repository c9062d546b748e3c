use Rattle.std.proofs.Common.{◌≡◌, ℕ, ◌||◌, take}
use Rattle.std.specs.List.{list_any}
use Rattle.list_checks.specs.Sorted.{is_number}
use Rattle.placement_candidates.specs.Found.{stands_at}
use Rattle.placement_candidates.proofs.region_sites.push_units.Given as goal

abbrev pub invariant-loop-k : goal.invariant-loop-k
invariant-loop-k l = (a : ℕ) → list_any (is_number a) l.addresses.items ≡ (list_any (is_number a) l.fn.addresses.items || list_any (stands_at a) (take l.k l.units))
