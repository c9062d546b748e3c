use Rattle.std.proofs.Common.{arith}
use Rattle.elf_reader.specs.File.{plain_view}
use Rattle.loaded_file.specs.Records.{target}
use Rattle.object_graph.proofs.MeaningLeads.{held_by}
use Rattle.object_graph.proofs.cover.is_covered.Goals as goal

pub returns : goal.returns
returns c =
    held_by (plain_view c.args.view.now) c.args.cover.now (target (plain_view c.args.view.now) c.args.reloc.now) _ _ _ _ _ c.requires (omega arith) c.deref.ensures.value c.deref-2.ensures.value c.count_under.ensures c.count_under-2.ensures
