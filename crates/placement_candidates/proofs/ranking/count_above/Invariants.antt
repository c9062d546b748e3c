use Rattle.std.proofs.Common.{◌≡◌, ℕ, ◌≤◌, nat_lt, map}
use Rattle.list_checks.specs.Sorted.{count_below}
use Rattle.placement_candidates.specs.FullVars.{plain_full_var}
use Rattle.placement_candidates.specs.Selected.{worth_at}
use Rattle.placement_candidates.proofs.ranking.count_above.Given as goal

pub record IsCount (count k : ℕ) (counted : ℕ) : Type 0 where
  pub is : count ≡ counted
  pub few : count ≤ k

abbrev pub invariant-loop-k : goal.invariant-loop-k
invariant-loop-k l = IsCount l.count l.k (count_below (λ j. nat_lt l.least (worth_at (map plain_full_var l.vars) j)) l.k)
