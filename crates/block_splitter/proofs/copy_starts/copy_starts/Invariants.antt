use Rattle.block_splitter.specs.Copying.{copy_in}
use Rattle.block_splitter.proofs.CopyLemmas.{AreSoFar}
use Rattle.block_splitter.proofs.copy_starts.copy_starts.Given as goal

-- where the blocks so far begin
abbrev pub invariant-loop-b : goal.invariant-loop-b
invariant-loop-b l = AreSoFar (copy_in l.plan) l.b l.words l.starts.items
