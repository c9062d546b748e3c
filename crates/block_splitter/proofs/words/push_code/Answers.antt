use Rattle.block_splitter.proofs.AppendLemmas.{code_more}
use Rattle.block_splitter.proofs.words.push_code.Goals as goal

pub loop-instr-preserved : goal.loop-instr-preserved
loop-instr-preserved c =
    code_more c.args.code.now _ c.args.words.now.items c.loop-instr.words.items c.push.new.self.items c.loop-instr.instr-index c.encode.result c.loop-instr-test.true c.loop-instr.invariant c.in_ok-push.ensures.items c.encode.ensures.means
