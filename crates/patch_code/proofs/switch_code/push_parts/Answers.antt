use Rattle.patch_code.specs.SwitchPlans.{plan_of, side_part}
use Rattle.patch_code.proofs.CodeLemmas.{one_more}
use Rattle.patch_code.proofs.switch_code.push_parts.Goals as goal

pub loop-i-preserved : goal.loop-i-preserved
loop-i-preserved c =
    one_more (side_part c.args.side (plan_of c.args.plan.now)) c.args.code.now.items c.loop-i.code.items c.push_part.new.code.items c.loop-i.i
    c.loop-i.invariant c.in_ok-push_part.ensures
