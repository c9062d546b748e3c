use Rattle.std.proofs.Common.{rules}
use Rattle.reach_graph.proofs.queue.Queue.of_marked.Goals as goal

pub loop-n-preserved : goal.loop-n-preserved
loop-n-preserved c = c.in_ok-begin_with.ensures c.args.marks.now (search rules) c.loop-n.invariant
