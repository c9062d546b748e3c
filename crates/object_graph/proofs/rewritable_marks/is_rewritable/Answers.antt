use Rattle.elf_reader.specs.File.{plain_view}
use Rattle.object_graph.proofs.RewritableMarks.{marks_length, mark_is}
use Rattle.object_graph.proofs.rewritable_marks.is_rewritable.Goals as goal

pub bounds-rewritable-i : goal.bounds-rewritable-i
bounds-rewritable-i c = marks_length (plain_view c.args.view.now) c.args.rewritable.now c.args.i c.requires.rewritable c.requires.below

pub returns : goal.returns
returns c = mark_is (plain_view c.args.view.now) c.args.rewritable.now c.args.i c.requires.rewritable c.requires.below
