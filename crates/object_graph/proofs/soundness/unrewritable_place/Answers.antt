use Rattle.elf_reader.specs.File.{plain_view}
use Rattle.object_graph.proofs.KindTests.{misled_found, none_misled}
use Rattle.object_graph.proofs.RangeLemmas.{reloc_is}
use Rattle.object_graph.proofs.soundness.unrewritable_place.Goals as goal

pub returns-then-is_changing-clause-found : goal.returns-then-is_changing-clause-found
returns-then-is_changing-clause-found c =
    let here = reloc_is c.args.file.now.view.now c.args.i c.index-reloc.result.now c.requires.below c.index-reloc.ensures in
    misled_found (plain_view c.args.file.now.view.now) c.args.i c.index-reloc.result.now c.args.ranges.now c.misled_place.result _ _ here c.is_changing.ensures c.if-is_changing.true c.is_rewritable.ensures c.misled_place.ensures.found

pub returns-else-is_changing-clause-found : goal.returns-else-is_changing-clause-found
returns-else-is_changing-clause-found c =
    let here = reloc_is c.args.file.now.view.now c.args.i c.index-reloc.result.now c.requires.below c.index-reloc.ensures in
    none_misled (plain_view c.args.file.now.view.now) c.args.i c.index-reloc.result.now c.args.ranges.now _ here c.is_changing.ensures c.if-is_changing.false
