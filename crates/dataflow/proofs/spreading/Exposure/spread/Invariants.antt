use Rattle.std.proofs.Common.{◌≡◌, ◌+◌, List, length}
use Rattle.rv32im.specs.declared.instructions.RegSet.{RegSet}
use Rattle.reach_graph.specs.Reaching.{plain_rows}
use Rattle.reach_graph.specs.Queues.{IsQueue}
use Rattle.reach_graph.specs.Propagation.{missing}
use Rattle.dataflow.specs.Spreading.{ArePassed, AreSound, AreWords}
use Rattle.dataflow.proofs.spreading.Exposure.spread.Given as goal

abbrev pub invariant-loop-node : goal.invariant-loop-node
invariant-loop-node l =
    record {
      words : AreWords (length l.code.blocks.items) l.self.behind.items l.self.before.items;
      sizes : length l.queue.waits.items ≡ length l.self.before.items;
      queue : IsQueue l.queue.waiting.items l.queue.waits.items;
      passed : ArePassed (plain_rows l.rows) l.self.behind.items l.self.before.items l.queue.waits.items;
      sound : (asked : List RegSet) → AreSound l.code l.graph asked l.initial.self.behind.items l.initial.self.before.items
          → AreSound l.code l.graph asked l.self.behind.items l.self.before.items;
    }

abbrev pub decreases-loop-node : goal.decreases-loop-node
decreases-loop-node l = missing l.self.before.items + length l.queue.waiting.items
