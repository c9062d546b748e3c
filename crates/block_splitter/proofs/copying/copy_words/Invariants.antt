use Rattle.block_splitter.specs.Copying.{copy_in, AreBelow}
use Rattle.block_splitter.proofs.copying.copy_words.Given as goal

-- the words of the blocks so far
abbrev pub invariant-loop-b : goal.invariant-loop-b
invariant-loop-b l = AreBelow (copy_in l.plan) l.words.items l.b
