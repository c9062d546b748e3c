use Rattle.reach_graph.specs.Queues.{StartsWith}
use Rattle.reach_graph.proofs.queue.Queue.of_marked.Given as goal

abbrev pub invariant-loop-n : goal.invariant-loop-n
invariant-loop-n l = StartsWith l.marks l.n l.queue.waiting.items l.queue.waits.items
