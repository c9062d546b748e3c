use Rattle.branch_bound.specs.Ranking.{PassedOver}
use Rattle.branch_bound.proofs.ranking.first_free.Given as goal

abbrev pub invariant-loop-found : goal.invariant-loop-found
invariant-loop-found l = PassedOver l.ranking l.marks l.found
