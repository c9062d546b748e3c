use Rattle.std.proofs.Common.{◌≡◌, ℕ, ◌<◌, false}
use Rattle.dataflow.specs.Exposed.{mark_at}
use Rattle.placement_candidates.proofs.finding.has_marked.Given as goal

abbrev pub invariant-loop-object : goal.invariant-loop-object
invariant-loop-object l = (o : ℕ) → o < l.object → mark_at l.marks o ≡ false
