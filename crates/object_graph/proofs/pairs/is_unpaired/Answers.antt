use Rattle.std.proofs.Common.{◌∙◌, ◌%◌, ap}
use Rattle.elf_reader.specs.File.{plain_view}
use Rattle.object_graph.proofs.PairKeys.{unpaired_first, unpaired_second}
use Rattle.object_graph.proofs.pairs.is_unpaired.Goals as goal

pub returns-then-has_inside : goal.returns-then-has_inside
returns-then-has_inside c =
    unpaired_first (plain_view c.args.view.now) c.args.lists.now c.args.reloc.now c.from-first.result c.from-low.result c.has_inside.result c.deref.result.now c.requires c.from-first.ensures (c.from-low.ensures ∙ ap (λ x. x % 4096) c.distance.ensures) c.deref.ensures.value c.has_inside.ensures c.if-has_inside.true

pub returns-else-has_inside : goal.returns-else-has_inside
returns-else-has_inside c =
    unpaired_second (plain_view c.args.view.now) c.args.lists.now c.args.reloc.now c.from-first.result c.from-low.result c.has_inside.result c.has_inside-else-has_inside.result c.deref.result.now c.deref-else-has_inside.result.now c.requires c.from-first.ensures (c.from-low.ensures ∙ ap (λ x. x % 4096) c.distance.ensures) c.deref.ensures.value c.has_inside.ensures c.if-has_inside.false c.deref-else-has_inside.ensures.value c.has_inside-else-has_inside.ensures
