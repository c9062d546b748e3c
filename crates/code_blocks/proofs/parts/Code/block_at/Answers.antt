use Rattle.std.proofs.Common.{◌<◌, length, slice_index_or, inl, arith}
use Rattle.std.proofs.lemmas.Bool.{ltb-true}
use Rattle.code_blocks.proofs.NumberLemmas.{none_starts, none_around, number_at, number_fits, not_below}
use Rattle.code_blocks.proofs.parts.Code.block_at.Goals as goal

pub returns-then-count-len : goal.returns-then-count-len
returns-then-count-len c =
    let blocks = c.args.self.now.blocks in
    let leader = c.args.leader in
    let count = c.blocks_before-count in
    none_starts blocks.items leader (λ j d below.
    let inside : j < count.result = omega (arith, below, c.if-count-len.true, c.len.ensures, blocks.ok.0) in
    inl (ltb-true (slice_index_or blocks.items j d).start leader (count.ensures.point.0 j d (omega arith) inside)))

pub overflow_cast-result : goal.overflow_cast-result
overflow_cast-result c =
    let blocks = c.args.self.now.blocks in
    let count = c.blocks_before-count in
    let within : count.result < length blocks.items = omega (arith, count.ensures.bound, c.if-count-len.false, c.len.ensures, blocks.ok.0) in
    let le = number_fits blocks.items c.args.leader count.result c.index.result.now c.requires within c.index.ensures c.if-index-leader.true in
    omega (arith, le, c.ranges.leader.fits)

pub returns-then-index-leader : goal.returns-then-index-leader
returns-then-index-leader c =
    let blocks = c.args.self.now.blocks in
    let count = c.blocks_before-count in
    let within : count.result < length blocks.items = omega (arith, count.ensures.bound, c.if-count-len.false, c.len.ensures, blocks.ok.0) in
    number_at c.args.self.now c.args.leader count.result c.index.result.now within c.index.ensures c.if-index-leader.true

pub returns-else-index-leader : goal.returns-else-index-leader
returns-else-index-leader c =
    let blocks = c.args.self.now.blocks in
    let leader = c.args.leader in
    let count = c.blocks_before-count in
    let point = count.ensures.point in
    let within : count.result < length blocks.items = omega (arith, count.ensures.bound, c.if-count-len.false, c.len.ensures, blocks.ok.0) in
    let from = not_below blocks.items count.result leader c.index.result.now c.index.ensures (point.1 count.result c.index.result.now (omega arith) within) in
    let differs = c.if-index-leader.false in
    none_around blocks.items leader count.result c.index.result.now c.requires within c.index.ensures
    (λ j d before. ltb-true (slice_index_or blocks.items j d).start leader (point.0 j d (omega arith) before))
    (omega (arith, from, differs))
