use Rattle.std.proofs.Common.{◌∙◌}
use Rattle.elf_reader.specs.File.{plain_view}
use Rattle.object_graph.specs.Fixed.{has_aliased_section}
use Rattle.object_graph.proofs.DisjointLemmas.{pass_more}
use Rattle.object_graph.proofs.aliasing.mark_aliased.Goals as goal

pub loop-k-preserved : goal.loop-k-preserved
loop-k-preserved c = record {
  adds = pass_more (has_aliased_section (plain_view c.args.file.now.view.now)) c.args.ranges.now c.loop-k.k c.aliased_place.result c.args.marks.now c.loop-k.marks c.mark.new.marks c.loop-k.invariant.adds c.aliased_place.ensures.found c.mark.ensures.adds;
  len = c.mark.ensures.len ∙ c.loop-k.invariant.len;
}
