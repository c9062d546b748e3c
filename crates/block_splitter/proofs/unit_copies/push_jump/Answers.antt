use Rattle.std.proofs.Common.{length, arith}
use Rattle.block_splitter.specs.Copying.{copy_in}
use Rattle.block_splitter.proofs.ReachLemmas.{jump_reaches, jump_inside, jump_outside, ok_more}
use Rattle.block_splitter.proofs.unit_copies.push_jump.Goals as goal

pub push_code-requires : goal.push_code-requires
push_code-requires c =
    jump_reaches c.args.plan.now (length c.args.words.now.items) _ c.args.target c.in-Some.start c.jump.result c.jump.ensures (omega (arith, c.len.ensures, c.args.words.now.ok.0)) c.requires.plan c.requires.room c.in-Some.ensures

pub returns-in-Some : goal.returns-in-Some
returns-in-Some c =
    ok_more c.push_code.result _ _ c.push_code.ensures
    (λ step. jump_inside c.args.plan.now (length c.args.words.now.items) _ c.args.target c.in-Some.start c.jump.result c.args.words.now.items c.push_code.new.words.items c.jump.ensures (omega (arith, c.len.ensures, c.args.words.now.ok.0)) c.requires.plan c.in-Some.ensures step)

pub returns-in-None : goal.returns-in-None
returns-in-None c =
    ok_more c.push_jump_out.result _ _ c.push_jump_out.ensures
    (λ step. jump_outside (copy_in c.args.plan.now) (length c.args.words.now.items) c.args.target c.args.words.now.items c.push_jump_out.new.words.items c.in-None.ensures step)
