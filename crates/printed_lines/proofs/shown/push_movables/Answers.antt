use Rattle.std.proofs.Common.{◌++◌, ◌<◌, length, ap, arith, ◌∙◌}
use Rattle.elf_reader.specs.File.{plain_view}
use Rattle.printed_lines.specs.ShowLines.{movable_line}
use Rattle.printed_lines.proofs.Lines.{lines_more}
use Rattle.printed_lines.proofs.ShowingLines.{movable_line_is}
use Rattle.printed_lines.specs.Texts.{text_of}
use Rattle.printed_lines.proofs.shown.push_movables.Goals as goal

pub loop-k-preserved : goal.loop-k-preserved
loop-k-preserved c =
    let v = plain_view c.args.view.now in
    let objects = c.args.graph.now.objects.items in
    let k = c.loop-k.k in
    let within : k < length objects = omega (arith, c.loop-k-test.true, c.len-k-end.ensures) in
    let line = movable_line_is v objects k c.index-object.result.now c.symbol_name-name.result.now within c.index-object.ensures c.symbol_name-name.ensures in
    lines_more (movable_line v objects) (text_of c.args.text.now) (text_of c.loop-k.text) (text_of c.push_addressed.new.text) k c.loop-k.invariant
    (c.in_ok-push_addressed.ensures ∙ ap (λ piece. text_of c.loop-k.text ++ piece) line)
