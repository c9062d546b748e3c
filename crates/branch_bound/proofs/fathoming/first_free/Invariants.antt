use Rattle.std.proofs.Common.{ℕ, ◌<◌}
use Rattle.placement_programme.specs.Views.{plain_side}
use Rattle.certificate_checker.specs.Rules.{BranchHolds}
use Rattle.branch_bound.proofs.fathoming.first_free.Given as goal

abbrev pub invariant-loop-number : goal.invariant-loop-number
invariant-loop-number l = (j : ℕ) → j < l.number → BranchHolds (plain_side l.side) l.marks j → ⊥
