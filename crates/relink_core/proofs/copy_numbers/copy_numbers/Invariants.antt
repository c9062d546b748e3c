use Rattle.relink_core.specs.StubBlocks.{HasCopyNumbers}
use Rattle.relink_core.proofs.copy_numbers.copy_numbers.Given as goal

abbrev pub invariant-loop-k : goal.invariant-loop-k
invariant-loop-k l = HasCopyNumbers l.copies l.k l.fn.blocks l.numbers.items
