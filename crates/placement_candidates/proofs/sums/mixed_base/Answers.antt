use Rattle.placement_candidates.specs.Parts.{IsSmallPart}
use Rattle.placement_candidates.proofs.SumLemmas.{at_part, sum_done}
use Rattle.placement_candidates.proofs.sums.mixed_base.Goals as goal
use Rattle.std.proofs.Common.{◌*◌, ◌^◌, arith}

pub part_base-total-requires-clause-most : goal.part_base-total-requires-clause-most
part_base-total-requires-clause-most c =
    (at_part IsSmallPart c.args.parts.now c.loop-i.i c.index-parts-i.result c.requires.small c.loop-i-test.true c.index-parts-i.is).most

pub part_base-total-requires-clause-base : goal.part_base-total-requires-clause-base
part_base-total-requires-clause-base c =
    (at_part IsSmallPart c.args.parts.now c.loop-i.i c.index-parts-i.result c.requires.small c.loop-i-test.true c.index-parts-i.is).base

pub returns-clause-sum : goal.returns-clause-sum
returns-clause-sum c =
    sum_done (λ p. p.weight * p.full.base) c.args.parts.now (1000 * 2 ^ 90) c.loop-i.i c.loop-i.total (omega (arith, c.loop-i-test.false)) c.loop-i.invariant
