use Rattle.std.proofs.Common.{◌≡◌, ℕ, ◌*◌, ◌≤◌, slice_index_or}
use Rattle.list_checks.specs.Sorted.{sum_below}
use Rattle.placement_candidates.proofs.objects.total.Given as goal

pub record IsSum (total k : ℕ) (sum : ℕ) : Type 0 where
  pub is : total ≡ sum
  pub small : total ≤ k * 18446744073709551615

abbrev pub invariant-loop-count : goal.invariant-loop-count
invariant-loop-count l = IsSum l.total l.count-index (sum_below (λ r. slice_index_or l.row r 0) l.count-index)
