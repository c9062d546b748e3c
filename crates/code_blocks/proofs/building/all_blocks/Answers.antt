use Rattle.std.proofs.Common.{◌≡◌, ◌<◌, length, slice_index_or, ap, arith}
use Rattle.elf_reader.specs.File.{plain_view}
use Rattle.code_blocks.proofs.CodeLemmas.{blocks_more}
use Rattle.code_blocks.proofs.building.all_blocks.Goals as goal

pub loop-start-preserved : goal.loop-start-preserved
loop-start-preserved c =
    let leaders = c.args.leaders.now.all.items in
    let i = c.loop-start.start-index in
    let same = ap length c.deref-start-items.ensures.value in
    let below : i < length leaders = omega (arith, same) in
    let at : c.in_ok-block.block.start ≡ slice_index_or leaders i 0 = cc (c.in_ok-block.ensures.start, c.deref-start-items.ensures.value) in
    blocks_more (plain_view c.args.file.now.view.now) c.args.functions.now leaders i c.loop-start.blocks.items _ c.in_ok-block.block below c.loop-start.invariant.0 c.loop-start.invariant.1 c.in_ok-push.ensures.items at c.in_ok-block.ensures.block
