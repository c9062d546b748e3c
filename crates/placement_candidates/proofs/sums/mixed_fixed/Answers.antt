use Rattle.std.proofs.Common.{◌*◌, ◌^◌, ◌∙◌, map, sym, arith}
use Rattle.placement_candidates.specs.Parts.{plain_part, IsSmallPart}
use Rattle.placement_candidates.proofs.SumLemmas.{at_part, sum_done, fixed_of_part, fixed_by_parts}
use Rattle.placement_candidates.proofs.sums.mixed_fixed.Goals as goal

pub part_fixed-total-requires : goal.part_fixed-total-requires
part_fixed-total-requires c =
    at_part IsSmallPart c.args.parts.now c.loop-i.i c.index-parts-i.result c.requires.small c.loop-i-test.true c.index-parts-i.is

pub returns-clause-sum : goal.returns-clause-sum
returns-clause-sum c =
    sum_done (fixed_of_part c.args.on) c.args.parts.now (1000 * 2 ^ 90) c.loop-i.i c.loop-i.total (omega (arith, c.loop-i-test.false)) c.loop-i.invariant
    ∙ sym (fixed_by_parts c.args.on (map plain_part c.args.parts.now))
