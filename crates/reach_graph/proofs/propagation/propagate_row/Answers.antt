use Rattle.reach_graph.proofs.PropagationLemmas.{propagate_more}
use Rattle.reach_graph.proofs.propagation.propagate_row.Goals as goal

pub loop-i-preserved : goal.loop-i-preserved
loop-i-preserved c =
    propagate_more c.args.row.now c.loop-i.i c.args.by c.args.marks.now c.args.queue.now.waiting.items c.args.queue.now.waits.items
    c.loop-i.marks c.loop-i.queue.waiting.items c.loop-i.queue.waits.items c.grow.new.marks c.grow.new.queue.waiting.items c.grow.new.queue.waits.items
    c.loop-i.invariant c.in_ok-grow.ensures
