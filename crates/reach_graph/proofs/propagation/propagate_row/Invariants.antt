use Rattle.reach_graph.specs.Propagation.{IsPropagated}
use Rattle.reach_graph.proofs.propagation.propagate_row.Given as goal

abbrev pub invariant-loop-i : goal.invariant-loop-i
invariant-loop-i l =
    IsPropagated l.row l.i l.by l.initial.marks l.initial.queue.waiting.items l.initial.queue.waits.items l.marks l.queue.waiting.items l.queue.waits.items
