use Rattle.std.proofs.Common.{arith}
use Rattle.loaded_file.proofs.WordLemmas.{range_ends}
use Rattle.code_blocks.proofs.flow.code_word.Goals as goal

pub overflow_cast-result : goal.overflow_cast-result
overflow_cast-result c =
    let ends = range_ends c.args.view.now c.args.k c.index-section.result.now c.requires.read c.requires.range c.requires.below c.index-section.ensures in
    omega (arith, ends)
