use Rattle.std.proofs.Common.{refl}
use Rattle.elf_reader.specs.File.{segments_of}
use Rattle.hex_image.specs.Runs.{file_map, image_map}
use Rattle.hex_image.specs.Difference.{view_run}
use Rattle.hex_image.proofs.CompareLemmas.{first_more}
use Rattle.hex_image.proofs.TextLemmas.{loadable_placed}
use Rattle.hex_image.proofs.comparing.first_in_segments.Goals as goal

pub first_off-off-requires-clause-placed : goal.first_off-off-requires-clause-placed
first_off-off-requires-clause-placed c =
    let same = c.deref-segment-items.ensures.value in
    rw same (loadable_placed c.args.view.now.segments.items c.loop-segment.segment-index _ c.requires.loadable (let below = c.loop-segment-test.true in rw same at below))

pub loop-segment-preserved : goal.loop-segment-preserved
loop-segment-preserved c =
    let same = c.deref-segment-items.ensures.value in
    rw c.lesser-first.ensures (first_more view_run c.args.view.now.segments.items c.loop-segment.segment-index _ _ (file_map (segments_of c.args.view.now)) (image_map c.args.image.now) c.loop-segment.first c.first_off-off.result (let below = c.loop-segment-test.true in rw same at below) refl c.loop-segment.invariant (rw same at c.first_off-off.ensures))
