use Rattle.std.proofs.Common.{subst}
use Rattle.elf_reader.specs.File.{plain_view}
use Rattle.object_graph.specs.Disjoint.{AddsRule}
use Rattle.object_graph.specs.Names.{is_named}
use Rattle.object_graph.proofs.DisjointLemmas.{five_rules}
use Rattle.object_graph.proofs.top.mark_immovable.Goals as goal

pub returns-clause-adds : goal.returns-clause-adds
returns-clause-adds c k below =
    let listed = subst (λ test. AddsRule (is_named (plain_view c.args.file.now.view.now) test) c.args.ranges.now c.mark_zeros.new.marks c.mark_named.new.marks) (λ i name. c.requires.names name i) c.mark_named.ensures.adds in
    five_rules _ _ _ _ _ _ _ _ _ _ _ (c.mark_zeros.ensures.adds k below) (listed k below)
    (c.mark_aliased.ensures.adds k below) (c.mark_unrewritable.ensures.adds k below) (c.mark_shared.ensures.adds k below)
