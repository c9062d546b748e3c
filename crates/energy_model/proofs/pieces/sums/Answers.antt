use Rattle.std.proofs.Common.{◌≡◌, ◌+◌, arith}
use Rattle.energy_model.proofs.PieceLemmas.{no_sums, sums_all}
use Rattle.energy_model.proofs.StretchLemmas.{parts_more, parts_few}
use Rattle.energy_model.proofs.pieces.sums.Goals as goal

pub loop-b-init : goal.loop-b-init
loop-b-init c =
    let ordered = c.requires.range.is_range.ordered in
    record {
      from = omega arith;
      to = omega (arith, ordered);
      sums = no_sums c.args.code.now c.args.graph.now c.args.profile.now c.args.range.now;
    }

pub added-sums-requires : goal.added-sums-requires
added-sums-requires c =
    let below = c.requires.range.is_range.below in
    let within = c.part_from-part.ensures.within in
    parts_few c.args.code.now c.args.graph.now c.args.profile.now c.args.range.now c.loop-b.b c.part_from-part.result.end c.loop-b.sums c.part_from-part.result.sums c.requires.counts (omega (arith, below, within)) c.loop-b.invariant.sums c.part_from-part.ensures.sums

pub loop-b-preserved : goal.loop-b-preserved
loop-b-preserved c =
    let from = c.loop-b.invariant.from in
    let more = c.part_from-part.ensures.more in
    record {
      from = omega (arith, from, more);
      to = c.part_from-part.ensures.within;
      sums = parts_more c.args.code.now c.args.graph.now c.args.profile.now c.args.range.now c.loop-b.b c.part_from-part.result.end c.loop-b.sums c.part_from-part.result.sums c.added-sums.result c.loop-b.invariant.sums c.part_from-part.ensures.sums c.added-sums.ensures;
    }

pub returns : goal.returns
returns c =
    let to = c.loop-b.invariant.to in
    let done : c.loop-b.b ≡ c.args.range.now.last + 1 = grind (arith, to) in
    sums_all c.args.code.now c.args.graph.now c.args.profile.now c.args.range.now c.loop-b.b c.loop-b.sums c.requires.range.is_range.below done c.loop-b.invariant.sums
