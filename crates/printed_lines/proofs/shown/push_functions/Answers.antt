use Rattle.std.proofs.Common.{◌++◌, ◌<◌, length, ap, arith, ◌∙◌}
use Rattle.elf_reader.specs.File.{plain_view}
use Rattle.code_blocks.specs.Numbers.{starts_of}
use Rattle.printed_lines.specs.ShowLines.{function_line}
use Rattle.printed_lines.proofs.Lines.{lines_more}
use Rattle.printed_lines.proofs.ShowingLines.{function_line_is}
use Rattle.printed_lines.specs.Texts.{text_of}
use Rattle.printed_lines.proofs.shown.push_functions.Goals as goal

pub loop-k-preserved : goal.loop-k-preserved
loop-k-preserved c =
    let v = plain_view c.args.view.now in
    let functions = c.args.code.now.functions.items in
    let starts = starts_of c.args.code.now in
    let regions = c.args.regions.now.of_block.items in
    let k = c.loop-k.k in
    let within : k < length functions = omega (arith, c.loop-k-test.true, c.len-k-end.ensures) in
    let line = function_line_is v functions starts regions k c.index-function.result.now c.symbol_name-name.result.now c.region_at-region.result within c.index-function.ensures c.symbol_name-name.ensures c.region_at-region.ensures in
    lines_more (function_line v functions starts regions) (text_of c.args.text.now) (text_of c.loop-k.text) (text_of c.push_addressed.new.text) k c.loop-k.invariant
    (c.in_ok-push_addressed.ensures ∙ ap (λ piece. text_of c.loop-k.text ++ piece) line)
