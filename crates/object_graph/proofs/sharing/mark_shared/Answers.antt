use Rattle.std.proofs.Common.{◌∙◌}
use Rattle.elf_reader.specs.File.{plain_view}
use Rattle.object_graph.specs.Shares.{is_shared_from}
use Rattle.object_graph.proofs.DisjointLemmas.{pass_more}
use Rattle.object_graph.proofs.sharing.mark_shared.Goals as goal

pub loop-i-preserved : goal.loop-i-preserved
loop-i-preserved c = record {
  adds = pass_more (is_shared_from (plain_view c.args.file.now.view.now)) c.args.ranges.now c.loop-i.i c.shared_place.result c.args.marks.now c.loop-i.marks c.mark.new.marks c.loop-i.invariant.adds c.shared_place.ensures.found c.mark.ensures.adds;
  len = c.mark.ensures.len ∙ c.loop-i.invariant.len;
}
