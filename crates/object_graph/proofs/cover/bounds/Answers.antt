use Rattle.elf_reader.specs.File.{plain_view}
use Rattle.object_graph.specs.Shares.{bounds_by}
use Rattle.object_graph.proofs.MeaningLeads.{count_more}
use Rattle.object_graph.proofs.cover.bounds.Goals as goal

pub loop-k-preserved : goal.loop-k-preserved
loop-k-preserved c test =
    count_more (bounds_by (plain_view c.args.file.now.view.now) c.args.bound test) c.loop-k.k _ _ (c.loop-k.invariant test) (c.in_ok-push_bound.ensures test)
