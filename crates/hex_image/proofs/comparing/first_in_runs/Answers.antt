use Rattle.std.proofs.Common.{arith}
use Rattle.elf_reader.specs.File.{segments_of}
use Rattle.hex_image.specs.Runs.{file_map, image_map, plain_run}
use Rattle.hex_image.proofs.CompareLemmas.{placed_at, first_more}
use Rattle.hex_image.proofs.comparing.first_in_runs.Goals as goal

pub first_off-off-requires-clause-placed : goal.first_off-off-requires-clause-placed
first_off-off-requires-clause-placed c =
    let same = c.deref-run-items.ensures.value in
    let placed = placed_at c.args.image.now.runs.items c.loop-run.run-index c.run-item.result c.requires.placed (let below = c.loop-run-test.true in rw same at below) (rw same at c.run-item.is) in
    omega (arith, placed, c.len.ensures)

pub loop-run-preserved : goal.loop-run-preserved
loop-run-preserved c =
    let same = c.deref-run-items.ensures.value in
    let off = rw (c.len.ensures, c.run-item.result.bytes.ok.0) at c.first_off-off.ensures in
    rw c.lesser-first.ensures (first_more plain_run c.args.image.now.runs.items c.loop-run.run-index c.run-item.result c.run-item.result (file_map (segments_of c.args.view.now)) (image_map c.args.image.now) c.loop-run.first c.first_off-off.result (let below = c.loop-run-test.true in rw same at below) (rw same at c.run-item.is) c.loop-run.invariant off)
