use Rattle.std.proofs.Common.{List, length}
use Rattle.rv32im.specs.declared.instructions.RegSet.{RegSet}
use Rattle.reach_graph.specs.Propagation.{GoesOn}
use Rattle.dataflow.specs.Spreading.{AreMore, AreSound, AreWords, MeansAlong, PassedUpto}
use Rattle.dataflow.proofs.spreading.Exposure.pass_row.Given as goal

abbrev pub invariant-loop-i : goal.invariant-loop-i
invariant-loop-i l =
    record {
      words : AreWords (length l.code.blocks.items) l.self.behind.items l.self.before.items;
      goes_on : GoesOn l.initial.self.before.items l.initial.queue.waiting.items l.initial.queue.waits.items l.self.before.items l.queue.waiting.items l.queue.waits.items;
      more : AreMore l.initial.self.behind.items l.self.behind.items;
      passed : PassedUpto l.row l.i l.by l.self.behind.items;
      sound : (asked : List RegSet) → MeansAlong l.code l.graph asked l.row l.by → AreSound l.code l.graph asked l.initial.self.behind.items l.initial.self.before.items
          → AreSound l.code l.graph asked l.self.behind.items l.self.before.items;
    }
