use Rattle.std.proofs.Common.{◌*◌, ◌^◌}
use Rattle.placement_candidates.proofs.SumLemmas.{IsSumTo}
use Rattle.placement_candidates.proofs.sums.mixed_base.Given as goal

abbrev pub invariant-loop-i : goal.invariant-loop-i
invariant-loop-i l = IsSumTo (λ p. p.weight * p.full.base) l.parts (1000 * 2 ^ 90) l.i l.total
