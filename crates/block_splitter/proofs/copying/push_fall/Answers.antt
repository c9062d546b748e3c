use Rattle.std.proofs.Common.{◌∙◌, sym}
use Rattle.block_splitter.specs.Copying.{copy_in}
use Rattle.block_splitter.proofs.ReachLemmas.{falls_outside, ok_more}
use Rattle.block_splitter.proofs.copying.push_fall.Goals as goal

pub returns-else-is_inside : goal.returns-else-is_inside
returns-else-is_inside c =
    ok_more c.push_jump_out.result _ _ c.push_jump_out.ensures
    (λ step. falls_outside (copy_in c.args.plan.now) c.args.next c.args.words.now.items c.push_jump_out.new.words.items (sym c.is_inside.ensures ∙ c.if-is_inside.false) step)
