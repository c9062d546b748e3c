use Rattle.std.proofs.Common.{◌≡◌}
use Rattle.block_splitter.specs.Forms.{is_site, body_at, units_size}
use Rattle.block_splitter.specs.Copies.{is_inside}
use Rattle.block_splitter.specs.Copying.{copy_in}
use Rattle.block_splitter.proofs.copy_starts.block_words.Given as goal

-- the words of the units so far
abbrev pub invariant-loop-k : goal.invariant-loop-k
invariant-loop-k l =
    l.words ≡ units_size (is_site l.plan.graph.now) (is_inside (copy_in l.plan)) (body_at l.plan.code.now.blocks.items l.b) l.k
