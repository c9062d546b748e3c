use Rattle.std.proofs.Common.{arith}
use Rattle.block_splitter.proofs.CandidateLemmas.{ends_last}
use Rattle.block_splitter.proofs.candidates.ends_function.Goals as goal

pub returns-then-b-len : goal.returns-then-b-len
returns-then-b-len c =
    let count = c.len.ensures in
    let own = c.args.code.now.blocks.ok.0 in
    ends_last c.args.code.now c.args.b c.len.result c.index.result.now c.requires c.index.ensures c.if-is_none.ensures c.if-b-len.true (omega (arith, count, own))
