use Rattle.hex_image.proofs.TextLemmas.{loadable_at}
use Rattle.hex_image.proofs.writing.filled_blocks.Goals as goal

pub push_filled-requires : goal.push_filled-requires
push_filled-requires c =
    let same = c.deref-segment-items.ensures.value in
    rw same (loadable_at c.args.view.now.segments.items c.loop-segment.segment-index _ c.requires (let below = c.loop-segment-test.true in rw same at below))
