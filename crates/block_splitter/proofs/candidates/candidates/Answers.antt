use Rattle.std.proofs.Common.{arith}
use Rattle.block_splitter.proofs.CandidateLemmas.{are_candidates}
use Rattle.block_splitter.proofs.candidates.candidates.Goals as goal

pub returns : goal.returns
returns c =
    let over = c.loop-last-test.false in
    let count = c.len-last-end.ensures in
    let own = c.args.code.now.blocks.ok.0 in
    are_candidates c.args.code.now c.loop-last.last c.loop-last.ranges.items c.arrange.new.ranges.items (omega (arith, over, count, own)) c.loop-last.invariant.sound c.loop-last.invariant.whole c.arrange.ensures.ordered c.arrange.ensures.same
