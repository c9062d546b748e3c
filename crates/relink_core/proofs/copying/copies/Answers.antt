use Rattle.std.proofs.Common.{arith}
use Rattle.relink_core.specs.Copies.{no_range}
use Rattle.relink_core.proofs.CopiesMade.{copies_more, copies_all}
use Rattle.relink_core.proofs.copying.copies.Goals as goal

pub loop-k-preserved : goal.loop-k-preserved
loop-k-preserved c =
    let below = c.loop-k-test.true in
    let many = c.requires.many in
    copies_more c.args.source.now c.args.ranges.now c.args.places.now c.loop-k.copies.items c.push.new.self.items c.in_ok-copy_at.field-0 c.loop-k.k no_range 0 below (omega (arith, below, many)) c.in_ok-push.ensures.items c.loop-k.invariant c.in_ok-copy_at.ensures

pub returns : goal.returns
returns c =
    let over = c.loop-k-test.false in
    let many = c.requires.many in
    copies_all c.args.source.now c.args.ranges.now c.args.places.now c.loop-k.copies.items c.loop-k.k over (omega (arith, over, many)) c.loop-k.invariant
