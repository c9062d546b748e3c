use Rattle.reach_graph.specs.Reaching.{word_at}
use Rattle.points_to.specs.Tables.{AreKept}
use Rattle.points_to.proofs.reached.Reached.of.Given as goal

abbrev pub invariant-loop-node : goal.invariant-loop-node
invariant-loop-node l = AreKept (word_at l.marks) l.node l.reached.items l.words.items
