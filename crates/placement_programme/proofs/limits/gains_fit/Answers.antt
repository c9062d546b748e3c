use Rattle.std.proofs.Common.{ap, arith}
use Rattle.placement_programme.specs.declared.variables.Var.{Var}
use Rattle.placement_programme.proofs.Answering.{refused}
use Rattle.placement_programme.proofs.SumLemmas.{gain_more, gain_more_le}
use Rattle.placement_programme.proofs.limits.gains_fit.Goals as goal

pub returns-then-var-left : goal.returns-then-var-left
returns-then-var-left c =
    let more = gain_more_le c.args.vars.now c.loop-var.var-index c.var-item.result c.loop-var-test.true in
    let so_far = c.loop-var.invariant in
    let same = ap (λ (v : Var). v.gain) c.var-item.is in
    refused (λ below. omega (arith, more, so_far, below, same))

pub loop-var-preserved : goal.loop-var-preserved
loop-var-preserved c =
    let more = gain_more c.args.vars.now c.loop-var.var-index c.var-item.result c.loop-var-test.true in
    let so_far = c.loop-var.invariant in
    let same = ap (λ (v : Var). v.gain) c.var-item.is in
    omega (arith, more, so_far, same)
