use Rattle.std.proofs.Common.{List, ℕ, ◌++◌, ap, ◌∙◌}
use Rattle.elf_reader.specs.File.{plain_view}
use Rattle.printed_lines.proofs.Lines.{lines_more}
use Rattle.result_map.specs.MapText.{row_in, places_by}
use Rattle.result_map.proofs.RowLemmas.{row_in_is}
use Rattle.result_map.proofs.lines.push_object_rows.Goals as goal

pub loop-region-preserved : goal.loop-region-preserved
loop-region-preserved c =
    let v = plain_view c.args.parts.now.view.now in
    let places = places_by c.args.parts.now.made.now.places in
    let k = c.args.k in
    let region = c.loop-region.region in
    let row = row_in_is v c.args.object places k region c.place_in-at.result c.untold_place-untold.result c.place_in-at.ensures c.untold_place-untold.ensures in
    lines_more (row_in v c.args.object places k) c.args.text.now.items c.loop-region.text.items c.push_object.new.text.items region c.loop-region.invariant
    (c.in_ok-push_object.ensures ∙ ap (λ (piece : List ℕ). c.loop-region.text.items ++ piece) row)
