use Rattle.std.proofs.Common.{◌++◌, ◌<◌, length, sum, ap, arith, ◌∙◌}
use Rattle.elf_reader.specs.File.{plain_view}
use Rattle.profile_runner.specs.Counts.{plain_rows}
use Rattle.printed_lines.specs.ProfileLines.{object_line}
use Rattle.printed_lines.proofs.Lines.{lines_more, object_line_is}
use Rattle.printed_lines.specs.Texts.{text_of}
use Rattle.printed_lines.proofs.profiles.push_objects.Goals as goal

pub loop-k-preserved : goal.loop-k-preserved
loop-k-preserved c =
    let v = plain_view c.args.view.now in
    let objects = c.args.graph.now.objects.items in
    let reads = c.args.profile.now.reads.items in
    let writes = c.args.profile.now.writes.items in
    let k = c.loop-k.k in
    let within : k < length objects = omega (arith, c.loop-k-test.true, c.len-k-end.ensures) in
    let line = object_line_is v objects reads writes k c.index.result.now c.symbol_name-name.result.now c.index-in-loop-k.result.now c.index-in-loop-k-2.result.now c.total-reads.result c.total-writes.result
    within c.requires.reads c.requires.writes c.index.ensures c.symbol_name-name.ensures c.index-in-loop-k.ensures c.index-in-loop-k-2.ensures
    (c.total-reads.ensures ∙ ap sum c.deref.ensures.value) (c.total-writes.ensures ∙ ap sum c.deref-in-loop-k.ensures.value) in
    lines_more (object_line v objects (plain_rows reads) (plain_rows writes)) (text_of c.args.text.now) (text_of c.loop-k.text) (text_of c.push_object.new.text) k c.loop-k.invariant
    (c.in_ok-push_object.ensures ∙ ap (λ piece. text_of c.loop-k.text ++ piece) line)
