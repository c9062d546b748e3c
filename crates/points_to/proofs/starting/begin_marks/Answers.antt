use Rattle.std.proofs.Common.{◌+◌, ◌<◌, length, arith}
use Rattle.points_to.proofs.KeptLemmas.{begins_none, begun_more}
use Rattle.points_to.proofs.starting.begin_marks.Goals as goal

pub loop-k-init : goal.loop-k-init
loop-k-init c = begins_none c.args.first c.args.marks.now c.requires.bare

pub loop-k-preserved : goal.loop-k-preserved
loop-k-preserved c =
    let k = c.loop-k.k in
    let inside : c.args.first + k < length c.loop-k.marks = omega (arith, c.requires.last, c.loop-k-test.true, c.loop-k.auto.marks) in
    begun_more c.args.first k c.one_mark.result c.loop-k.marks inside c.one_mark.ensures c.loop-k.invariant
