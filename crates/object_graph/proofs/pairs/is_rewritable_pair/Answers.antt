use Rattle.std.proofs.Common.{refl}
use Rattle.elf_reader.specs.File.{plain_view}
use Rattle.object_graph.proofs.ListLemmas.{both_first, both_fails, reloc_is}
use Rattle.object_graph.proofs.PairKeys.{pair_is}
use Rattle.object_graph.proofs.pairs.is_rewritable_pair.Goals as goal

pub returns-then-is_upper_pair : goal.returns-then-is_upper_pair
returns-then-is_upper_pair c =
    let here = reloc_is c.args.file.now.view.now c.args.i c.index-reloc.result.now c.requires.below c.index-reloc.ensures in
    both_first _ _ _ c.if-is_upper_pair.true (pair_is (plain_view c.args.file.now.view.now) c.args.i c.index-reloc.result.now c.is_upper_pair.result c.stands_alone.result here c.is_upper_pair.ensures c.stands_alone.ensures)

pub returns-else-is_upper_pair : goal.returns-else-is_upper_pair
returns-else-is_upper_pair c =
    let here = reloc_is c.args.file.now.view.now c.args.i c.index-reloc.result.now c.requires.below c.index-reloc.ensures in
    both_fails _ _ _ c.if-is_upper_pair.false (pair_is (plain_view c.args.file.now.view.now) c.args.i c.index-reloc.result.now c.is_upper_pair.result _ here c.is_upper_pair.ensures refl)
