use Rattle.std.proofs.Common.{sym, subst}
use Rattle.elf_reader.specs.File.{plain_view}
use Rattle.elf_reader.specs.declared.view.Reloc.{Reloc}
use Rattle.loaded_file.specs.Records.{reloc_at, counts}
use Rattle.object_graph.proofs.ListLemmas.{reloc_is}
use Rattle.object_graph.specs.Disjoint.{Finds}
use Rattle.object_graph.specs.Meant.{leads_inside}
use Rattle.object_graph.specs.Shares.{shares_from}
use Rattle.object_graph.proofs.DisjointLemmas.{behind_open, behind_shut}
use Rattle.object_graph.proofs.sharing.shared_place.Goals as goal

pub returns-then-is_sharing-clause-found : goal.returns-then-is_sharing-clause-found
returns-then-is_sharing-clause-found c =
    let v = plain_view c.args.file.now.view.now in
    let i = c.args.i in
    let ranges = c.args.ranges.now in
    let here = reloc_is c.args.file.now.view.now i c.index.result.now c.requires.below c.index.ensures in
    behind_open (counts v (reloc_at v i)) (shares_from v i) c.is_sharing.result (leads_inside v (reloc_at v i)) ranges c.leading_place.result c.is_sharing.ensures c.if-is_sharing.true
    (subst (λ (r : Reloc). Finds (leads_inside v r) ranges c.leading_place.result) (sym here) c.leading_place.ensures.found)

pub returns-else-is_sharing-clause-found : goal.returns-else-is_sharing-clause-found
returns-else-is_sharing-clause-found c =
    let v = plain_view c.args.file.now.view.now in
    behind_shut (counts v (reloc_at v c.args.i)) (shares_from v c.args.i) c.is_sharing.result (leads_inside v (reloc_at v c.args.i)) c.args.ranges.now c.is_sharing.ensures c.if-is_sharing.false
