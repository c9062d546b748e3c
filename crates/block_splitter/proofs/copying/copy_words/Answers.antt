use Rattle.std.proofs.Common.{◌≡◌, ◌+◌, ℕ, subst, arith}
use Rattle.block_splitter.specs.Copying.{copy_in, AreBelow}
use Rattle.block_splitter.proofs.CopySizeLemmas.{range_is}
use Rattle.block_splitter.proofs.CopyLemmas.{blocks_none, blocks_more, blocks_whole}
use Rattle.block_splitter.proofs.copying.copy_words.Goals as goal

pub loop-b-init : goal.loop-b-init
loop-b-init c = rw c.new-words.ensures.items (blocks_none c.args.plan.now)

pub loop-b-preserved : goal.loop-b-preserved
loop-b-preserved c =
    blocks_more (copy_in c.args.plan.now) c.loop-b.b c.loop-b.words.items c.push_block.new.words.items c.loop-b.invariant c.in_ok-push_block.ensures

pub returns : goal.returns
returns c =
    let p = c.args.plan.now in
    let ordered = (range_is p.code.now p.range c.requires.plan.copied.shape).ordered in
    let all : c.loop-b.b ≡ p.range.last + 1 = omega (arith, ordered, c.loop-b-test.false, c.loop-b.auto.b-end) in
    blocks_whole p c.loop-b.words.items c.requires.plan (subst (λ (b : ℕ). AreBelow (copy_in p) c.loop-b.words.items b) all c.loop-b.invariant)
