use Rattle.patch_code.specs.StubPlans.{body_of}
use Rattle.relink_core.proofs.ServingMade.{jump_is, words_size, words_are, entered_alone}
use Rattle.relink_core.proofs.serving.body_of.Goals as goal

pub returns-in-Some-clause-is : goal.returns-in-Some-clause-is
returns-in-Some-clause-is c = λ pl place stub placed near body.
    let w = c.args.plan.now in
    jump_is w.source.now w.regions.now w.copies.now pl place c.args.block c.copied_start.result c.in-Some.copy.now stub placed c.in-Some.ensures c.copied_start.ensures body

pub returns-in-Ok-clause-size : goal.returns-in-Ok-clause-size
returns-in-Ok-clause-size c =
    let w = c.args.plan.now in
    words_size w.source.now w.copies.now c.args.at c.args.block (body_of c.in-Ok.body) c.in-None.ensures c.in-Ok.ensures

pub returns-in-Ok-clause-is : goal.returns-in-Ok-clause-is
returns-in-Ok-clause-is c = λ pl place stub placed near body.
    let w = c.args.plan.now in
    let enters = entered_alone w c.args.block c.requires.block c.in-None.ensures in
    words_are w.source.now w.regions.now w.copies.now pl place c.args.at c.args.block (body_of c.in-Ok.body) stub placed c.in-None.ensures c.in-Ok.ensures (near enters) body
