use Rattle.std.proofs.Common.{◌*◌, ◌^◌}
use Rattle.placement_candidates.proofs.SumLemmas.{IsSumTo, fixed_of_part}
use Rattle.placement_candidates.proofs.sums.mixed_fixed.Given as goal

abbrev pub invariant-loop-i : goal.invariant-loop-i
invariant-loop-i l = IsSumTo (fixed_of_part l.on) l.parts (1000 * 2 ^ 90) l.i l.total
