use Rattle.block_splitter.specs.Copying.{copy_in, AddsUnits}
use Rattle.block_splitter.proofs.copying.push_block.Given as goal

-- the words of the units so far
abbrev pub invariant-loop-k : goal.invariant-loop-k
invariant-loop-k l = AddsUnits (copy_in l.plan) l.b l.k l.initial.words.items l.words.items
