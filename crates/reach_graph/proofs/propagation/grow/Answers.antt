use Rattle.std.proofs.Common.{arith, subst, ◌<◌}
use Rattle.std.proofs.lemmas.Nat.{le_or_l}
use Rattle.reach_graph.specs.Reaching.{word_at}
use Rattle.reach_graph.proofs.PropagationLemmas.{grown_some}
use Rattle.reach_graph.proofs.propagation.grow.Goals as goal

pub returns-in_ok-add : goal.returns-in_ok-add
returns-in_ok-add c =
    let marks = c.args.marks.now in
    let both = c.joined-grown.ensures.is in
    let more = le_or_l (word_at marks c.args.node) c.args.by in
    rw both
    (grown_some c.args.node c.args.by marks c.args.queue.now.waiting.items c.args.queue.now.waits.items c.add.new.self.waiting.items c.add.new.self.waits.items
    c.requires.node c.in_ok-add.ensures (omega (arith, both, more, c.if-grown-old.true)) (subst (λ x. x < 18446744073709551616) both c.joined-grown.ensures.fits))
