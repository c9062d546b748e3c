use Rattle.std.proofs.Common.{◌*◌, ◌^◌, ◌∙◌, map, sym, arith}
use Rattle.placement_candidates.specs.Parts.{plain_part, IsSmallPart}
use Rattle.placement_candidates.specs.Mixing.{HasVar}
use Rattle.placement_candidates.proofs.SumLemmas.{at_part, int_sum_done, gain_of_part, gain_by_parts}
use Rattle.placement_candidates.proofs.sums.mixed_gain.Goals as goal

pub part_gain-total-requires-clause-small : goal.part_gain-total-requires-clause-small
part_gain-total-requires-clause-small c =
    at_part IsSmallPart c.args.parts.now c.loop-i.i c.index-parts-i.result c.requires.small c.loop-i-test.true c.index-parts-i.is

pub part_gain-total-requires-clause-inside : goal.part_gain-total-requires-clause-inside
part_gain-total-requires-clause-inside c =
    at_part (HasVar c.args.on c.args.k) c.args.parts.now c.loop-i.i c.index-parts-i.result c.requires.inside c.loop-i-test.true c.index-parts-i.is

pub returns : goal.returns
returns c =
    int_sum_done (gain_of_part c.args.on c.args.k) c.args.parts.now (1000 * 2 ^ 90) c.loop-i.i _ (omega (arith, c.loop-i-test.false)) c.loop-i.invariant
    ∙ sym (gain_by_parts c.args.on c.args.k (map plain_part c.args.parts.now))
