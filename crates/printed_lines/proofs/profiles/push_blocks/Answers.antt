use Rattle.std.proofs.Common.{◌++◌, ◌<◌, length, ap, arith, ◌∙◌}
use Rattle.code_blocks.specs.Numbers.{starts_of}
use Rattle.printed_lines.specs.ProfileLines.{block_line}
use Rattle.printed_lines.proofs.Lines.{lines_more, block_line_is}
use Rattle.printed_lines.specs.Texts.{text_of}
use Rattle.printed_lines.proofs.profiles.push_blocks.Goals as goal

pub loop-k-preserved : goal.loop-k-preserved
loop-k-preserved c =
    let code = c.args.code.now in
    let arrivals = c.args.profile.now.arrivals.items in
    let k = c.loop-k.k in
    let counted : k < length arrivals = omega (arith, c.loop-k-test.true, c.len-k-end.ensures) in
    let within : k < length code.blocks.items = omega (arith, counted, c.requires) in
    let line = block_line_is code arrivals k c.index.result.now c.index-in-loop-k.result.now within counted c.index.ensures c.index-in-loop-k.ensures in
    lines_more (block_line (starts_of code) arrivals) (text_of c.args.text.now) (text_of c.loop-k.text) (text_of c.push_block.new.text) k c.loop-k.invariant
    (c.in_ok-push_block.ensures ∙ ap (λ piece. text_of c.loop-k.text ++ piece) line)
