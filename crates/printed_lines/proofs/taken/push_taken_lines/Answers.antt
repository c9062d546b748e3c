use Rattle.std.proofs.Common.{◌++◌, ◌<◌, length, ap, arith, ◌∙◌}
use Rattle.std.proofs.lemmas.List.{get_or_default}
use Rattle.elf_reader.specs.File.{plain_view}
use Rattle.printed_lines.specs.declared.taken.TakenItem.{TakenItem}
use Rattle.printed_lines.specs.TakenLines.{taken_line, taken_at, no_item}
use Rattle.printed_lines.proofs.Lines.{lines_more}
use Rattle.printed_lines.specs.Texts.{text_of}
use Rattle.printed_lines.proofs.taken.push_taken_lines.Goals as goal

pub loop-k-preserved : goal.loop-k-preserved
loop-k-preserved c =
    let v = plain_view c.args.view.now in
    let objects = c.args.graph.now.objects.items in
    let items = c.args.items.now in
    let k = c.loop-k.k in
    let within : k < length items = omega (arith, c.loop-k-test.true) in
    lines_more (taken_at v objects items) (text_of c.args.text.now) (text_of c.loop-k.text) (text_of c.push_taken.new.text) k c.loop-k.invariant
    (c.in_ok-push_taken.ensures ∙ ap (λ (item : TakenItem). text_of c.loop-k.text ++ taken_line v objects item) (get_or_default items k _ no_item within))
