use Rattle.elf_reader.specs.File.{plain_view}
use Rattle.object_graph.proofs.CutLemmas.{cut_first, cut_second}
use Rattle.object_graph.proofs.rewritable_words.cuts_range.Goals as goal

pub returns-then-has_inside : goal.returns-then-has_inside
returns-then-has_inside c =
    cut_first (plain_view c.args.view.now) c.args.lists.now _ c.change_start-second.result c.has_inside.result c.deref.result.now c.requires.lists c.change_start-second.ensures.value c.deref.ensures.value c.has_inside.ensures c.if-has_inside.true

pub returns-else-has_inside : goal.returns-else-has_inside
returns-else-has_inside c =
    cut_second (plain_view c.args.view.now) c.args.lists.now _ c.change_start-second.result c.has_inside.result c.has_inside-else-has_inside.result c.deref.result.now c.deref-else-has_inside.result.now c.requires.lists c.change_start-second.ensures.value c.deref.ensures.value c.has_inside.ensures c.if-has_inside.false c.deref-else-has_inside.ensures.value c.has_inside-else-has_inside.ensures
