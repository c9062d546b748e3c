use Rattle.std.proofs.Common.{◌+◌, length}
use Rattle.reach_graph.specs.Reaching.{plain_rows}
use Rattle.reach_graph.specs.Propagation.{missing, IsPropagating}
use Rattle.reach_graph.proofs.propagation.propagate.Given as goal

abbrev pub invariant-loop-node : goal.invariant-loop-node
invariant-loop-node l = IsPropagating (plain_rows l.rows) l.initial.marks l.marks l.queue.waiting.items l.queue.waits.items

abbrev pub decreases-loop-node : goal.decreases-loop-node
decreases-loop-node l = missing l.marks + length l.queue.waiting.items
