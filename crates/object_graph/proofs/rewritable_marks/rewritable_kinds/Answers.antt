use Rattle.elf_reader.specs.File.{plain_view}
use Rattle.object_graph.proofs.RewritableMarks.{marks_more}
use Rattle.object_graph.proofs.rewritable_marks.rewritable_kinds.Goals as goal

pub loop-i-preserved : goal.loop-i-preserved
loop-i-preserved c =
    marks_more (plain_view c.args.file.now.view.now) c.loop-i.i _ _ _ c.loop-i.invariant c.in_ok-push.ensures.items c.is_rewritable_kind.ensures
