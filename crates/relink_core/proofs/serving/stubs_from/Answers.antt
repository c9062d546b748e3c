use Rattle.std.proofs.Common.{◌+◌, ℕ, sym, ap, subst, slice_index_or, arith}
use Rattle.relink_core.specs.StubBlocks.{ReachesFrom}
use Rattle.relink_core.proofs.StubsInOrder.{so_far_more, next_ends, next_reaches, body_stands}
use Rattle.relink_core.proofs.serving.stubs_from.Goals as goal

pub overflow_add-body_at : goal.overflow_add-body_at
overflow_add-body_at c =
    let ends = next_ends c.args.plan.now c.args.first c.requires.room.0 c.loop-block.at c.loop-block.block-index 0 c.args.blocks.now c.loop-block.stubs.items c.loop-block-test.true c.requires.room.2 c.loop-block.invariant in
    omega (arith, ends, c.requires.room.1, c.test_size.ensures)

pub stub_of-requires-clause-reach : goal.stub_of-requires-clause-reach
stub_of-requires-clause-reach c = λ none.
    let w = c.args.plan.now in
    let reaches = next_reaches w c.args.first c.requires.room.0 c.loop-block.at c.loop-block.block-index 0 c.args.blocks.now c.loop-block.stubs.items c.loop-block-test.true c.requires.blocks c.requires.room.2 c.loop-block.invariant none in
    let place = c.test_size.ensures in
    subst (λ (n : ℕ). ReachesFrom w.source.now (slice_index_or c.args.blocks.now c.loop-block.block-index 0) (c.loop-block.at + n)) (sym place) reaches

pub overflow_add-at : goal.overflow_add-at
overflow_add-at c =
    let ends = next_ends c.args.plan.now c.args.first c.requires.room.0 c.loop-block.at c.loop-block.block-index 0 c.args.blocks.now c.loop-block.stubs.items c.loop-block-test.true c.requires.room.2 c.loop-block.invariant in
    omega (arith, ends, c.requires.room.1, c.size_of-at.ensures, c.in_ok-stub.ensures.size)

pub loop-block-preserved : goal.loop-block-preserved
loop-block-preserved c =
    let w = c.args.plan.now in
    let at = c.loop-block.at in
    let b = slice_index_or c.args.blocks.now c.loop-block.block-index 0 in
    so_far_more w c.args.first at (at + c.size_of-at.result) c.loop-block.block-index 0 c.args.blocks.now c.loop-block.stubs.items c.push.new.self.items c.in_ok-stub.stub
    c.loop-block-test.true c.loop-block.invariant c.in_ok-stub.ensures.size (ap (λ n. at + n) c.size_of-at.ensures) c.in_ok-push.ensures.items
    (λ pl placed. c.in_ok-stub.ensures.serves pl (at + 88) placed (body_stands w at b c.test_size.result c.test_size.ensures))
