use Rattle.std.proofs.Common.{arith}
use Rattle.std.proofs.lemmas.Result.{on_ok_weaker}
use Rattle.hex_image.proofs.RunLemmas.{pushed_joined, pushed_disjoint}
use Rattle.hex_image.proofs.reading.push_byte.Goals as goal

pub returns-then-from-len : goal.returns-then-from-len
returns-then-from-len c =
    pushed_joined c.args.runs.now.items c.push.new.self.items c.pop.new.self.items c.in-Some.last c.in_ok-longer.field-0 c.args.address c.args.byte c.in-Some.ensures.items c.in_ok-push.ensures.items c.in_ok-longer.ensures (omega arith)

pub returns : goal.returns
returns c =
    on_ok_weaker c.push_run-2.result
    (λ pushed. pushed_disjoint c.args.runs.now.items c.push-2.new.self.items c.pop.new.self.items c.in-Some.last _ c.args.address c.args.byte c.in-Some.ensures.items c.in_ok-push-2.ensures.items (λ ranges_overlap. c.if-from-len.false (omega arith)) pushed)
    c.push_run-2.ensures
