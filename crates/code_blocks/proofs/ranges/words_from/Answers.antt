use Rattle.std.proofs.Common.{arith}
use Rattle.code_blocks.proofs.RangeLemmas.{held_section}
use Rattle.code_blocks.proofs.ranges.words_from.Goals as goal

pub overflow_add-result : goal.overflow_add-result
overflow_add-result c =
    let ends = (held_section c.args.view.now c.args.k c.args.address c.index-section.result.now c.requires.read c.requires.holds c.index-section.ensures).ends in
    omega (arith, ends)

pub overflow_sub-result : goal.overflow_sub-result
overflow_sub-result c =
    let to = (held_section c.args.view.now c.args.k c.args.address c.index-section.result.now c.requires.read c.requires.holds c.index-section.ensures).to in
    omega (arith, to)

pub returns : goal.returns
returns c =
    let is = (held_section c.args.view.now c.args.k c.args.address c.index-section.result.now c.requires.read c.requires.holds c.index-section.ensures).is in
    rw is (omega arith)
