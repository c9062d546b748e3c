use Rattle.block_splitter.proofs.AppendLemmas.{jumps_out}
use Rattle.block_splitter.proofs.unit_copies.push_jump_out.Goals as goal

pub returns : goal.returns
returns c =
    jumps_out c.args.plan.now.code.now c.args.before.now c.jump_absolute.result c.args.target c.args.link c.temporary-register.result c.args.words.now.items c.push_code.new.words.items c.push_code-2.new.words.items c.temporary-register.ensures c.jump_absolute.ensures c.in_ok-push_code.ensures c.in_ok-push_code-2.ensures
