use Rattle.std.proofs.Common.{take}
use Rattle.relink_core.proofs.StubsInOrder.{AreSoFar}
use Rattle.relink_core.proofs.serving.stubs_from.Given as goal

abbrev pub invariant-loop-block : goal.invariant-loop-block
invariant-loop-block l = AreSoFar l.plan l.fn.first (take l.block-index l.blocks) l.at l.stubs.items
