use Rattle.std.proofs.Common.{◌∙◌}
use Rattle.elf_reader.specs.File.{plain_view}
use Rattle.object_graph.proofs.KindTests.{absolute_by_word, absolute_by_half}
use Rattle.object_graph.proofs.RangeLemmas.{reloc_is}
use Rattle.object_graph.proofs.rewritable_marks.is_rewritable_absolute.Goals as goal

pub returns-then-is_rewritable_word : goal.returns-then-is_rewritable_word
returns-then-is_rewritable_word c =
    c.if-is_rewritable_word.true ∙ absolute_by_word (plain_view c.args.file.now.view.now) c.args.i c.is_rewritable_word.result c.is_rewritable_word.ensures c.if-is_rewritable_word.true

pub returns-else-is_rewritable_word : goal.returns-else-is_rewritable_word
returns-else-is_rewritable_word c =
    let here = reloc_is c.args.file.now.view.now c.args.i c.index-reloc.result.now c.requires.below c.index-reloc.ensures in
    absolute_by_half (plain_view c.args.file.now.view.now) c.args.i c.index-reloc.result.now c.is_rewritable_word.result _ here c.is_rewritable_word.ensures c.if-is_rewritable_word.false c.is_rewritable_half.ensures
