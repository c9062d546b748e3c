use Rattle.std.proofs.Common.{◌∙◌}
use Rattle.elf_reader.specs.File.{plain_view}
use Rattle.object_graph.proofs.KindTests.{word_alone, word_not_held}
use Rattle.object_graph.proofs.RangeLemmas.{reloc_is}
use Rattle.object_graph.proofs.rewritable_words.is_rewritable_word.Goals as goal

pub returns-then-is_held : goal.returns-then-is_held
returns-then-is_held c =
    let here = reloc_is c.args.file.now.view.now c.args.i c.index-reloc.result.now c.requires.below c.index-reloc.ensures in
    word_alone (plain_view c.args.file.now.view.now) c.args.i c.index-reloc.result.now c.is_held.result _ here c.is_held.ensures c.if-is_held.true c.stands_alone.ensures

pub returns-else-is_held : goal.returns-else-is_held
returns-else-is_held c =
    let here = reloc_is c.args.file.now.view.now c.args.i c.index-reloc.result.now c.requires.below c.index-reloc.ensures in
    c.if-is_held.false ∙ word_not_held (plain_view c.args.file.now.view.now) c.args.i c.index-reloc.result.now c.is_held.result here c.is_held.ensures c.if-is_held.false
