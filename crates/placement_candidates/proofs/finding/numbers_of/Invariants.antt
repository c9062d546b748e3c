use Rattle.std.proofs.Common.{◌≡◌}
use Rattle.list_checks.specs.Sorted.{collected}
use Rattle.dataflow.specs.Exposed.{mark_at}
use Rattle.placement_candidates.proofs.finding.numbers_of.Given as goal

abbrev pub invariant-loop-object : goal.invariant-loop-object
invariant-loop-object l = l.numbers.items ≡ collected (mark_at l.marks) (λ o. o) l.object
