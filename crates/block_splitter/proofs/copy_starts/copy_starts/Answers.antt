use Rattle.std.proofs.Common.{◌≡◌, ◌+◌, ℕ, true, subst, arith}
use Rattle.block_splitter.specs.Forms.{holds_block}
use Rattle.block_splitter.specs.Copying.{copy_in}
use Rattle.block_splitter.proofs.CopySizeLemmas.{holds, range_is, begins_within, block_ends}
use Rattle.block_splitter.proofs.CopyLemmas.{AreSoFar, starts_none, starts_more, starts_whole}
use Rattle.block_splitter.proofs.copy_starts.copy_starts.Goals as goal

pub loop-b-init : goal.loop-b-init
loop-b-init c = rw c.new-starts.ensures.items (starts_none (copy_in c.args.plan.now))

pub overflow_mul-words : goal.overflow_mul-words
overflow_mul-words c =
    let p = c.args.plan.now in
    let within = begins_within p c.loop-b.b c.requires (holds c.loop-b.b p.range c.loop-b.auto.b (omega (arith, c.loop-b-test.true))) in
    let so_far = c.loop-b.invariant.counted in
    omega (arith, within, so_far)

pub overflow_add-words : goal.overflow_add-words
overflow_add-words c =
    let p = c.args.plan.now in
    let ends = block_ends p c.loop-b.b c.requires (holds c.loop-b.b p.range c.loop-b.auto.b (omega (arith, c.loop-b-test.true))) in
    let so_far = c.loop-b.invariant.counted in
    let here = c.block_words-words.ensures in
    omega (arith, ends, so_far, here)

pub loop-b-preserved : goal.loop-b-preserved
loop-b-preserved c =
    let p = c.args.plan.now in
    let inside : holds_block c.loop-b.b p.range ≡ true = holds c.loop-b.b p.range c.loop-b.auto.b (omega (arith, c.loop-b-test.true)) in
    starts_more (copy_in p) c.loop-b.b c.loop-b.words c.block_words-words.result c.loop-b.starts.items c.push.new.self.items inside c.loop-b.invariant c.block_words-words.ensures c.in_ok-push.ensures.items

pub returns : goal.returns
returns c =
    let p = c.args.plan.now in
    let ordered = (range_is p.code.now p.range c.requires.copied.shape).ordered in
    let all : c.loop-b.b ≡ p.range.last + 1 = omega (arith, ordered, c.loop-b-test.false, c.loop-b.auto.b-end) in
    starts_whole p c.loop-b.words c.loop-b.starts.items c.requires (subst (λ (b : ℕ). AreSoFar (copy_in p) b c.loop-b.words c.loop-b.starts.items) all c.loop-b.invariant)
