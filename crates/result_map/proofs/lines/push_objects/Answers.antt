use Rattle.std.proofs.Common.{List, ℕ, ◌++◌, ◌<◌, length, ap, arith, ◌∙◌}
use Rattle.elf_reader.specs.File.{plain_view}
use Rattle.printed_lines.proofs.Lines.{lines_more}
use Rattle.result_map.specs.MapText.{object_rows_at, places_by}
use Rattle.result_map.proofs.RowLemmas.{object_rows_is}
use Rattle.result_map.proofs.lines.push_objects.Goals as goal

pub loop-k-preserved : goal.loop-k-preserved
loop-k-preserved c =
    let parts = c.args.parts.now in
    let v = plain_view parts.view.now in
    let objects = parts.graph.now.objects.items in
    let places = places_by parts.made.now.places in
    let k = c.loop-k.k in
    let within : k < length objects = omega (arith, c.loop-k-test.true, c.len-k-end.ensures) in
    let rows = object_rows_is v objects places parts.regions k c.index-object.result.now within c.index-object.ensures in
    lines_more (object_rows_at v objects places parts.regions) c.args.text.now.items c.loop-k.text.items c.push_object_rows.new.text.items k c.loop-k.invariant
    (c.in_ok-push_object_rows.ensures ∙ ap (λ (piece : List ℕ). c.loop-k.text.items ++ piece) rows)
